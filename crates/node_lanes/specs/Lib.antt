pub mod Ends
pub mod Faults
pub mod Passes
pub mod Resting
pub mod Pulling
pub mod Lending
