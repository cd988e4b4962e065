-- The right number is tested behind the two bytes before it. Assumes nothing.
use native.Mathlib.Omega.{arith}
use borrow.Author.Rules.{rules}
use Rattle.entries.proofs.literal_passes.Statement.{statement}
use Rattle.entries.proofs.literal_passes.Tie as tie

pub literal_passes_spec : {M : Type 1} → statement M
literal_passes_spec =
    tie.close
    (tie.spec
    -- flag-passes-requires
    (λ c κs. omega arith)
    -- add-byte-at
    (λ c. omega arith)
    -- byte-at-requires
    (λ c κs. omega arith)
    -- number-allowed-requires
    (λ c κs. search rules)
    -- returns
    (λ c. rw (c.number_allowed-right.ensures, c.byte_at.ensures, c.flag_passes-flag.ensures)))
