-- The calls and the demands.
pub mod PathLimit
pub mod Verdicts
pub mod CheckingOrder
pub mod CallLaws
pub mod Refusals
pub mod VerdictCall
pub mod DerivationBytes
pub mod DerivationCall
pub mod Demands
pub mod Room
pub mod Reordering
pub mod JoinPairs
pub mod Decision
pub mod OneLink
pub mod ThreeLinks
