pub mod Icmp
pub mod Icmp6
pub mod Tcp
pub mod Udp
