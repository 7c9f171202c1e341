pub mod Counted
pub mod Opened
pub mod Making
