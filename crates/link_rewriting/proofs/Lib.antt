-- The theorems, from the leaves up.
pub mod SameHeaps
pub mod Encoded
pub mod Claims
pub mod Samples
