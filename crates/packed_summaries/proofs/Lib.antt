pub mod Columns
pub mod Stacked
pub mod Words
pub mod Unpacked
