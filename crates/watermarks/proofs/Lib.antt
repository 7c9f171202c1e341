pub mod Lesser
pub mod Places
