pub mod Question
pub mod Limits
pub mod Words
pub mod Table
pub mod QueryTable
