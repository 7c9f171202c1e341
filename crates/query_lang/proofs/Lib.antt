pub mod Places
pub mod Barred
pub mod OneAnswer
