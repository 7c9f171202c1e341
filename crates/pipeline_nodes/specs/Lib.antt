pub mod Nodes
pub mod Places
pub mod Turns
pub mod Looks
pub mod Done
