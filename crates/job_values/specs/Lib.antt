pub mod Said
pub mod Values
pub mod Fields
pub mod Parsed
pub mod Wide
