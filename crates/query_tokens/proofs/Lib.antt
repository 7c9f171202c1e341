pub mod Numerals
pub mod Lexed
pub mod Prefixes
