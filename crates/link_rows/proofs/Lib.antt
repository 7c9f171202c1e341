pub mod Behind
pub mod Linked
pub mod Joined
