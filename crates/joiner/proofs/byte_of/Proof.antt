-- A byte fits. Assumes nothing.
use native.Mathlib.Omega.{arith}
use borrow.Author.Rules.{rules}
use mathlib.Core.Path.{refl, sym}
use lib.ListN.{get_or-eq_default}
use Rattle.joiner.proofs.byte_of.Statement.{statement}
use Rattle.joiner.proofs.byte_of.Tie as tie

pub byte_of_spec : {M : Type 1} → statement M
byte_of_spec =
    tie.close
    (tie.spec
    -- shared-slice-read-result
    (λ c. search rules)
    -- cast-result
    (λ c. omega (arith, c.shared_slice_known-1.given c.args.at))
    -- returns
    (λ c. (refl, omega (arith, c.shared_slice_known-1.given c.args.at)))
    -- returns-2
    (λ c. (sym (get_or-eq_default c.args.line.now 0 c.if-at-line.false), omega arith)))
