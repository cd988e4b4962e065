-- The steps taken and those left make the count. Assumes nothing.
use Rattle.std.proofs.Common.{◌≡◌, ◌+◌, ◌-◌, ◌≤◌}
use Rattle.between_search.specs.Tests.{step_count, steps}
use Rattle.between_search.specs.Search.{entry}
use Rattle.between_tests.proofs.step_count.Given as goal

abbrev pub invariant-loop-k : goal.invariant-loop-k
invariant-loop-k l = (l.at.0 ≤ 5) × (steps (entry l.links) l.initial.at.0 l.w.0 ≡ l.k + step_count (entry l.links) (6 - l.k) l.at.0 l.w.0)
