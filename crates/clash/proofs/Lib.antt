pub mod Decomposed
pub mod Sections
pub mod Laid
