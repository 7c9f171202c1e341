pub mod Rows
pub mod Linking
