pub mod Bits
pub mod Square
pub mod Options
