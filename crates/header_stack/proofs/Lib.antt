pub mod Chains
pub mod Fits
pub mod Looking
pub mod Placing
