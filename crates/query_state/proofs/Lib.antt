pub mod Whole
pub mod Putting
pub mod Named
pub mod Lawful
pub mod Sending
pub mod Stepping
pub mod Stepped
