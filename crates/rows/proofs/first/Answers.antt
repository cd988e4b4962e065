-- The lowest bit, where there is one.
use Rattle.std.proofs.Common.{ℕ, sym, ap, ◌∙◌, arith}
use Rattle.logic.specs.Search.{from, find}
use Rattle.rows.specs.Bits.{bit}
use Rattle.rows.proofs.Finds.{find-bit, find-no-bit}
use Rattle.rows.proofs.first.Goals as goal

pub returns-then-row-eq0 : goal.returns-then-row-eq0
returns-then-row-eq0 c = sym (ap (λ (w : ℕ). find (bit w) (from 32 0)) c.if-row-eq0.true ∙ find-no-bit)

pub returns : goal.returns
returns c = sym (find-bit _ (omega arith) c.ranges.row.fits)
