pub mod Listed
pub mod Offering
pub mod Moving
pub mod Pulled
pub mod Joining
