pub mod Less
pub mod More
