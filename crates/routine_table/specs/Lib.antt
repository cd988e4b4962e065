-- What a table says, in reading order.
pub mod Cells
pub mod Formulas
pub mod Routines
pub mod Examples
