-- Theorems about LL(1) grammars, from their leaves up; the examples first.
pub mod Examples
pub mod States
pub mod Derivations
pub mod Passed
pub mod Prediction
pub mod Leaves
pub mod Productive
pub mod Bounds
pub mod Runs
pub mod Prefixes
pub mod Alike
pub mod Correct
pub mod Room
