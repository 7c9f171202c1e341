pub mod Grids
pub mod Pipelines
