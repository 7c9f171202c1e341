pub mod Members
pub mod NewLinks
pub mod Trying
