pub mod Pipelines
pub mod Going
