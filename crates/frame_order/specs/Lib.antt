pub mod Agreeing
pub mod Groups
pub mod Items
pub mod Rows
pub mod Said
