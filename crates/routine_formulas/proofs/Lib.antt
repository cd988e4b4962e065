pub mod Terms
pub mod Parts
