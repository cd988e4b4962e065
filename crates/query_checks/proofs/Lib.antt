pub mod Faults
pub mod Checks
