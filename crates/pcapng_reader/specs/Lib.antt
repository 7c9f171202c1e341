-- Which definitions stand here, the lowest first.
pub mod Packet
pub mod State
pub mod Blocks
pub mod Options
pub mod Times
pub mod Sections
pub mod Interfaces
pub mod Packets
pub mod Steps
pub mod Good
pub mod Reader
