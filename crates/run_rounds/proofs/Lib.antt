pub mod Looks
pub mod Ahead
pub mod Stepping
pub mod Meeting
