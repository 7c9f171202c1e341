pub mod Expression
pub mod Meaning
pub mod Summaries
pub mod Groups
pub mod Names
pub mod Grammar
