pub mod Passing
pub mod Turning
pub mod Stepping
pub mod Shown
pub mod Starting
pub mod Settled
