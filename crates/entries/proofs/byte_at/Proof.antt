-- A byte fits. Assumes nothing.
use native.Mathlib.Omega.{arith}
use borrow.Author.Rules.{rules}
use Rattle.entries.proofs.byte_at.Statement.{statement}
use Rattle.entries.proofs.byte_at.Tie as tie

pub byte_at_spec : {M : Type 1} → statement M
byte_at_spec =
    tie.close
    (tie.spec
    -- shared-slice-read-result
    (λ c. search rules)
    -- cast-result
    (λ c. omega (arith, c.shared_slice_known-1.given c.args.place))
    -- returns
    (λ c. search rules))
