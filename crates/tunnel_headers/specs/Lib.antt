pub mod Gre
pub mod Vxlan
