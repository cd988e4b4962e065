pub mod Told
pub mod Six
pub mod Merged
