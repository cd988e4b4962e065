-- Walks: the choice of a move, what a walk writes, how long a path can get, and a hand that follows.
pub mod Order
pub mod Derives
pub mod Gains
pub mod OurWalk
pub mod Limit
pub mod Follows
