pub mod Joining
pub mod Dealt
