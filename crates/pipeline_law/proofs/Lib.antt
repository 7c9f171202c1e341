pub mod Listed
pub mod Numbered
pub mod Moments
pub mod Agreeing
pub mod Staying
