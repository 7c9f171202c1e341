pub mod Hashing
pub mod Jobs
pub mod Tallying
pub mod Marks
