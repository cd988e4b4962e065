pub mod Held
pub mod Successors
pub mod Report
