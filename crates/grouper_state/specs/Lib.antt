pub mod Outgoing
pub mod Puts
pub mod States
pub mod Promised
