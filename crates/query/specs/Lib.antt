pub mod Forms
pub mod Sections
pub mod LaysOut
