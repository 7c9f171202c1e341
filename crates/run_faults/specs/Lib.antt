pub mod JobLine
pub mod FaultLine
pub mod Status
