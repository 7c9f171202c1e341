pub mod Lanes
pub mod Needs
pub mod Polling
pub mod Shuffles
