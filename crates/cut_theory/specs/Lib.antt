-- Links that are assigned, in terms of cut links, in reading order.
pub mod Versions
pub mod Jumps
pub mod Examples
pub mod Trees
