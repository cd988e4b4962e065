-- Above 64 all are one. Assumes nothing.
use native.Mathlib.Omega.{arith}
use mathlib.Core.Path.{sym}
use Rattle.formula_reader.proofs.Laws.{cap_low, cap_high}
use Rattle.formula_reader.proofs.capped.Statement.{statement}
use Rattle.formula_reader.proofs.capped.Tie as tie

pub capped_spec : {M : Type 1} → statement M
capped_spec =
    tie.close
    (tie.spec
    -- returns
    (λ c. (sym (cap_high _ c.if-n-gt64.true), omega arith))
    -- returns-2
    (λ c. (sym (cap_low _ c.if-n-gt64.false), omega arith)))
