pub mod Packing
pub mod Rows
pub mod Packed
pub mod Lean
