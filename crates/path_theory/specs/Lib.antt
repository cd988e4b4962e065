-- What a path of a segment says, in reading order.
pub mod Points
pub mod Assignments
pub mod Paths
pub mod Claims
