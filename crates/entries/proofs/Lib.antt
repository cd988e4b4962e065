pub mod Loops
pub mod Faults
pub mod Passes
pub mod Links
