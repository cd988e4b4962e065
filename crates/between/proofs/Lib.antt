-- Why small heaps are enough, from its leaves up.
pub mod Until
pub mod FirstVisit
pub mod Firsts
pub mod SmallModel
