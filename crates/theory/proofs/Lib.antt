-- The theory, from its leaves up: no part knows one below it.
pub mod Basics
pub mod Graph
pub mod Query
pub mod Paths
pub mod Joins
pub mod Walks
pub mod Soundness
pub mod Completeness
pub mod Calls
