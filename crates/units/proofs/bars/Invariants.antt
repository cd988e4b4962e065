-- What is barred by the terms below x, and by those from x on, is all that is.
use Rattle.std.proofs.Common.{◌≡◌, length}
use Rattle.rows.specs.Square.{square}
use Rattle.units.proofs.Marks.{Barring}
use Rattle.units.proofs.bars.Given as goal

abbrev pub invariant-loop-x : goal.invariant-loop-x
invariant-loop-x l =
    (length l.ahead ≡ 17) × (length l.behind ≡ 17) × Barring l.reach l.denied l.x (square l.ahead) × Barring l.reach l.denied l.x (λ i j. square l.behind j i)
