pub mod Moves
pub mod Finds
pub mod Fronts
pub mod Places
