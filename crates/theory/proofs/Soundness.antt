-- Refuted is right (000, Theorem 1, Lemma 7).
pub mod Value
pub mod Truth
pub mod RuleSound
pub mod FactsSound
pub mod ClashSound
pub mod Refuted
