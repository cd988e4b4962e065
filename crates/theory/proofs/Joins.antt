-- Joins in any order leave the same facts, and so do reachability facts added before or after them.
pub mod Quotient
pub mod Congruence
pub mod AnyOrder
pub mod Reach
pub mod Pairs
pub mod Replay
