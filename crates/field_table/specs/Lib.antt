pub mod Bits
pub mod FieldText
pub mod Fields
pub mod NextKinds
pub mod Reading
pub mod Table
pub mod ValueText
