-- The terms below are counted. Assumes nothing.
use Rattle.std.proofs.Common.{◌≡◌, ◌≤◌}
use Rattle.between_search.specs.Tests.{used}
use Rattle.between_search.specs.Search.{entry}
use Rattle.between_tests.proofs.used.Given as goal

abbrev pub invariant-loop-u : goal.invariant-loop-u
invariant-loop-u l = (l.count ≤ l.u) × (l.count ≡ used (entry l.nodes) l.u)
