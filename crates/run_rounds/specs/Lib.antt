pub mod Faults
pub mod Looked
pub mod Rounds
pub mod Runs
