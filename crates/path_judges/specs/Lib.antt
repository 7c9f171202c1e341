pub mod Members
pub mod Drop
pub mod Loop
pub mod Pattern
pub mod Open
pub mod Path
