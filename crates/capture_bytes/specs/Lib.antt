-- Which definitions stand here.
pub mod Kept
pub mod Number
