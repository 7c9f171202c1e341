pub mod Frames
pub mod Dealt
pub mod Few
pub mod Gathering
pub mod Linked
pub mod Promising
pub mod Stepping
pub mod Stepped
