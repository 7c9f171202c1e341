-- Which definitions stand here, the lowest first.
pub mod Captured
pub mod Format
pub mod Records
pub mod Libpcap
pub mod LibpcapReader
pub mod LibpcapSteps
pub mod Good
pub mod Numbering
pub mod Files
pub mod Reader
pub mod Lent
pub mod Reading
pub mod Laws
