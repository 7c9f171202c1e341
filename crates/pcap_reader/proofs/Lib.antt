-- What the checker did not find by itself.
pub mod Fronts
pub mod Runs
pub mod Standing
pub mod Readings
pub mod Numbers
pub mod Formats
pub mod Packets
pub mod Filing
pub mod Giving
