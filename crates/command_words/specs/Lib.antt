pub mod Command
pub mod CommandLine
pub mod CommandTable
pub mod Kinds
pub mod Reading
pub mod Words
