-- The lines that programs print of a text, in reading order.
pub mod Lines
pub mod Words
pub mod Samples
