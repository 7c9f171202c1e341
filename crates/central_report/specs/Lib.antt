pub mod Report
pub mod Laws
pub mod Answering
pub mod Progress
