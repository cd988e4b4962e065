-- The first of what is left once higher numbers are masked.
use Rattle.std.proofs.Common.{refl, ◌∙◌, arith}
use Rattle.rows.specs.Bits.{bit}
use Rattle.rows.proofs.Finds.{find_masked}
use Rattle.units.proofs.lowest.Goals as goal

pub returns : goal.returns
returns c = c.first.ensures ∙ find_masked (bit c.args.row) 16 _ _ (omega arith) (λ i h. refl) c.up_to.ensures
