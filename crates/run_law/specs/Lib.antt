pub mod Shapes
pub mod Sent
pub mod Links
pub mod Nodes
pub mod Snapshot
pub mod Laws
