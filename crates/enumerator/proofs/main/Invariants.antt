-- No total is above the count of queries asked, so none wraps.
use Rattle.std.proofs.Common.{◌≤◌}
use Rattle.enumerator.proofs.main.Given as goal

abbrev pub invariant-loop : goal.invariant-loop
invariant-loop l = (l.satisfiable ≤ l.counter) × (l.disagreements ≤ l.counter) × (l.failing ≤ l.counter)
