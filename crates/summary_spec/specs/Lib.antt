pub mod Declaration
pub mod Lawful
pub mod Job
pub mod Judge
pub mod CountJob
pub mod Propositions
pub mod Reads
pub mod Canonical
