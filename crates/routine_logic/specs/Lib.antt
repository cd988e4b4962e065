-- What must be believed of routines, in reading order.
pub mod Syntax
pub mod State
pub mod Formulas
pub mod Runs
pub mod Checks
pub mod Answers
pub mod Claims
pub mod Shown
pub mod Examples
