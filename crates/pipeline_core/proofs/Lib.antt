pub mod Holding
pub mod Gathering
pub mod Opened
pub mod Ended
