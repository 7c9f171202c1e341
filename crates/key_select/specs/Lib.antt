pub mod Times
pub mod Wanted
pub mod Sum
pub mod Late
pub mod Fates
pub mod Tally
pub mod Laws
