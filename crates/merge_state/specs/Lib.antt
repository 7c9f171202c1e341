pub mod Queues
pub mod States
pub mod Promised
