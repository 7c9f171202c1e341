-- What the checker did not find by itself.
mod Scanning
mod Powers
pub mod Fronts
pub mod Walking
pub mod Standing
