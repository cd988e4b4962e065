pub mod Room
pub mod Laid
