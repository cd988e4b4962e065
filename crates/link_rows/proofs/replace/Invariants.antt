-- After k links, those are replaced in.
use Rattle.std.proofs.Common.{◌≡◌, length}
use Rattle.logic.specs.Facts.{replace_in}
use Rattle.rows.proofs.Fill.{Filled}
use Rattle.link_rows.specs.Cube.{cube}
use Rattle.link_rows.proofs.replace.Given as goal

abbrev pub invariant-loop-k : goal.invariant-loop-k
invariant-loop-k l = (length l.rows ≡ 51) × Filled (λ j. replace_in l.pair.lo.0 l.pair.hi.0 (cube l.initial.rows j)) (cube l.initial.rows) l.k (cube l.rows)
