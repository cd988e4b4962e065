-- After y columns, those are rows.
use Rattle.std.proofs.Common.{◌≡◌, length}
use Rattle.rows.specs.Square.{square}
use Rattle.rows.proofs.Fill.{Filled}
use Rattle.rows.proofs.turned.Given as goal

abbrev pub invariant-loop-y : goal.invariant-loop-y
invariant-loop-y l = (length l.out ≡ 17) × Filled (λ a b. square l.rows b a) (square l.initial.out) l.y (square l.out)
