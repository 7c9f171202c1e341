pub mod Faults
pub mod Jobs
pub mod JobFile
pub mod Gathering
pub mod Captures
pub mod Reports
