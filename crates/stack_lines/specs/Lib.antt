pub mod Faults
pub mod Stacks
pub mod Printing
