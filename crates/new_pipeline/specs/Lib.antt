pub mod Shapes
pub mod Opening
pub mod Rooms
pub mod Readying
