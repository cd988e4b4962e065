pub mod Held
pub mod Covered
