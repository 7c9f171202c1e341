pub mod Seen
pub mod Holds
pub mod Steps
pub mod One
