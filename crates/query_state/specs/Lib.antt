pub mod States
pub mod Takings
pub mod Promised
