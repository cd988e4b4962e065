-- After z rows, those are told.
use Rattle.rows.specs.Bits.{bit}
use Rattle.rows.specs.Square.{square}
use Rattle.rows.proofs.Fill.{Filled}
use Rattle.rows.proofs.column.Given as goal

abbrev pub invariant-loop-z : goal.invariant-loop-z
invariant-loop-z l = Filled (λ x. square l.rows x l.y) (bit 0) l.z (bit l.out)
