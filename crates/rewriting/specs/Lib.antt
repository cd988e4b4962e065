pub mod OldQuery
pub mod OldHeap
pub mod Rewritten
pub mod Call
pub mod Claims
pub mod Samples
