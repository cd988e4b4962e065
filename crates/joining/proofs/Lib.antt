-- The theorems, from the leaves up.
pub mod PairLists
pub mod Counts
pub mod Checks
pub mod Calls
pub mod Terms
pub mod Accepted
pub mod OneHeap
pub mod Places
pub mod HandBack
pub mod Claims
pub mod Samples
