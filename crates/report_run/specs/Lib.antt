pub mod Streaming
pub mod Giving
pub mod Faults
