-- The table is made up to an entry: the rows below v, and of row v what is below w. Assumes nothing.
use Rattle.std.proofs.Common.{◌≡◌, ◌+◌, ◌*◌, length}
use Rattle.between_search.specs.Tests.{steps}
use Rattle.between_search.specs.Search.{entry}
use Rattle.between_tests.specs.Tables.{MadeTo}
use Rattle.between_tests.proofs.step_table.Given as goal

abbrev pub invariant-loop-v : goal.invariant-loop-v
invariant-loop-v l = (length l.table ≡ 36) × MadeTo (steps (entry l.links)) 0 l.table (6 * l.v)

abbrev pub invariant-loop-w : goal.invariant-loop-w
invariant-loop-w l = (length l.table ≡ 36) × MadeTo (steps (entry l.links)) 0 l.table (6 * l.v + l.w)
