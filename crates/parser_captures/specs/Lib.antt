pub mod Captures
pub mod Choice
pub mod Puts
pub mod Steps
