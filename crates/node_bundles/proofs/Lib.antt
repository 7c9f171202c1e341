pub mod Going
pub mod Bundled
