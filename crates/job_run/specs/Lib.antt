pub mod Sources
pub mod Rows
pub mod Ends
pub mod Closing
