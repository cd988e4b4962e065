pub mod Checks
pub mod Said
pub mod Accepted
