pub mod Places
pub mod Kept
pub mod Neighbours
pub mod Breaks
