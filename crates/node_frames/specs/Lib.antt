pub mod Fields
pub mod Table
pub mod Buffer
pub mod Link
