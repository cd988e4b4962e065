-- Assumes nothing.
use borrow.Author.Rules.{rules}
use mathlib.Core.Path.{sym}
use Rattle.share_lengths.proofs.Lengths.{cut_short, whole_length}
use Rattle.share_lengths.proofs.bad_length.Statement.{statement}
use Rattle.share_lengths.proofs.bad_length.Tie as tie

pub bad_length_spec : {M : Type 1} → statement M
bad_length_spec =
    tie.close
    (tie.spec
    -- returns
    (λ c. sym (cut_short _ c.if-head-lt2.true))
    -- byte-at-requires
    (λ c κs. search rules)
    -- mul-result
    (λ c. search rules)
    -- byte-at-requires-2
    (λ c κs. search rules)
    -- add-result
    (λ c. search rules)
    -- returns-2
    (λ c. whole_length _ c.if-head-lt2.false c.byte_at.ensures.0 c.byte_at-2.ensures.0))
