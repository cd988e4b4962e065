-- What every step of a path keeps.
pub mod Replace
pub mod Extends
pub mod Joined
pub mod Doubled
pub mod Ranged
pub mod Settle
pub mod Kept
pub mod Round
pub mod Applies
pub mod Start
pub mod Invariant
