pub mod Passes
pub mod Sofar
pub mod Putting
