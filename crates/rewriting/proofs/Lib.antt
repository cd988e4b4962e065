-- The theorems, from the leaves up.
pub mod Fresh
pub mod SameVerdict
pub mod OldBytes
pub mod Encoded
pub mod Copied
pub mod Calls
pub mod Claims
pub mod Samples
