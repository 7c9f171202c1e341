pub mod Delays
pub mod Rows
pub mod Profile
pub mod Put
pub mod Laws
