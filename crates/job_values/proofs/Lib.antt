pub mod Lists
pub mod FieldTexts
pub mod Lexed
pub mod Trees
pub mod PlainNames
pub mod Parsing
pub mod NumberTexts
