pub mod Listed
pub mod Polled
pub mod Pumped
pub mod Pulled
pub mod Resting
pub mod Going
pub mod Taken
