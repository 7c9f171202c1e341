pub mod Fresh
pub mod Gathered
