pub mod DecimalLines
pub mod Puts
