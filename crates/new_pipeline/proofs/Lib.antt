pub mod Linked
pub mod Opened
pub mod Gathered
