-- After a rows, those rows are merged.
use Rattle.rows.specs.Square.{square, columns}
use Rattle.rows.proofs.Fill.{Filled}
use Rattle.rows.proofs.merge_columns.Given as goal

abbrev pub invariant-loop-a : goal.invariant-loop-a
invariant-loop-a l = Filled (columns l.pair.lo.0 l.pair.hi.0 (square l.initial.rows)) (square l.initial.rows) l.a (square l.rows)
