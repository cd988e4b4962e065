-- A byte of section 1. Assumes nothing.
use Prim.Native.Nat.{ℕ}
use native.Mathlib.Omega.{arith}
use mathlib.Core.Path.{ap, ◌∙◌}
use lib.Dec.{eqb}
use Rattle.between_tests.proofs.is_nil.Statement.{statement}
use Rattle.between_tests.proofs.is_nil.Tie as tie
use Rattle.between_tests.proofs.Laws.{nil_is}

pub is_nil_spec : {M : Type 1} → statement M
is_nil_spec =
    tie.close
    (tie.spec
    -- byte-at-requires
    (λ c κs.
    omega (arith, c.requires.0.entries_fit, c.requires.2))
    -- returns
    (λ c.
    ap (λ (x : ℕ). eqb x 255) c.byte_at.ensures ∙ nil_is _ _ c.requires.0 _ c.requires.1 c.requires.2))
