pub mod First
pub mod Settled
