pub mod Rule
pub mod Pairs
pub mod Rewrite
