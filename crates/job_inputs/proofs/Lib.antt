pub mod JobCaptures
pub mod Missing
pub mod Opened
pub mod Records
pub mod Collecting
pub mod Filling
pub mod Reporting
