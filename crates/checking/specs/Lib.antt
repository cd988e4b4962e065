pub mod Fitting
pub mod CheckCall
pub mod Hand
pub mod Claims
pub mod Samples
