pub mod Least
pub mod Raised
pub mod Slots
