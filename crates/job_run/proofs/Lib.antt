pub mod Sound
pub mod Running
pub mod Causes
pub mod Numbered
