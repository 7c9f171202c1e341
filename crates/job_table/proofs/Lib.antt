pub mod Elements
pub mod Bits
pub mod PatternWords
