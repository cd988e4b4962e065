-- Assumes nothing.
use borrow.Author.Rules.{rules}
use native.Mathlib.Omega.{arith}
use mathlib.Core.Path.{sym}
use lib.ListN.{get_or-eq_default}
use Rattle.formula_printing.proofs.byte_at.Statement.{statement}
use Rattle.formula_printing.proofs.byte_at.Tie as tie

pub byte_at_spec : {M : Type 1} → statement M
byte_at_spec =
    tie.close
    (tie.spec
    -- returns
    (λ c. (sym (get_or-eq_default c.args.bytes.now 0 c.if-bytes-at.true), omega arith))
    -- shared-slice-read-wide
    (λ c. search rules)
    -- wide-requires
    (λ c κs. search rules)
    -- returns-2
    (λ c. search rules))
