-- What is left of the pairs answers for all.
use Rattle.std.proofs.Common.{◌≡◌, ◌-◌}
use Rattle.logic.specs.Search.{from, all}
use Rattle.ordering.specs.Sheet.{pair_at, pairs}
use Rattle.ordering.specs.Finding.{free}
use Rattle.precedence.proofs.is_free.Given as goal

abbrev pub invariant-loop-i : goal.invariant-loop-i
invariant-loop-i l = all (free l.placed l.r) (pairs l.sheet) ≡ all (λ j. free l.placed l.r (pair_at l.sheet j)) (from (l.end - l.i) l.i)
