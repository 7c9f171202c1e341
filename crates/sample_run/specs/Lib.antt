-- Which definitions stand here, the lowest first.
pub mod Starts
pub mod Made
pub mod SampleLine
