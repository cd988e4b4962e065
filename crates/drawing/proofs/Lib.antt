-- The theorems, from the leaves up.
pub mod Numbers
pub mod Sums
pub mod Scanned
pub mod Formed
pub mod Recovered
pub mod Longest
pub mod Samples
pub mod Answers
pub mod Claims
