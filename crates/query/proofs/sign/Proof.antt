-- The byte is tested where the literal stands. Assumes nothing.
use Prim.Native.Nat.{ℕ}
use borrow.Author.Rules.{rules}
use mathlib.Core.Path.{ap}
use lib.Dec.{eqb}
use Rattle.query.proofs.sign.Statement.{statement}
use Rattle.query.proofs.sign.Tie as tie

pub sign_spec : {M : Type 1} → statement M
sign_spec =
    tie.close
    (tie.spec
    -- mul-byte-at
    (λ c. search rules)
    -- add-byte-at
    (λ c. search rules)
    -- byte-at-requires
    (λ c κs. search rules)
    -- returns
    (λ c. ap (λ (b : ℕ). eqb b 1) c.byte_at.ensures))
