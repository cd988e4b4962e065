pub mod Formulas
pub mod Codes
pub mod Examples
