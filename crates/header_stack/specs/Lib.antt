pub mod Headers
pub mod Layer
pub mod Nth
pub mod Places
pub mod Stack
pub mod Value
