pub mod Bytes
pub mod Eth
pub mod Ext
pub mod Frag
pub mod Ipv4
pub mod Ipv6
pub mod Tag
