pub mod Layering
pub mod Closing
pub mod Newly
