pub mod Fractions
pub mod Claims
