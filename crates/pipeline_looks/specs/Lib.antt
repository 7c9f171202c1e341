pub mod Links
pub mod Looking
