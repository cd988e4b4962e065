-- What is left of the search equals the whole.
use Rattle.std.proofs.Common.{◌≡◌, ◌-◌}
use Rattle.logic.specs.Search.{from, find}
use Rattle.ordering.specs.Sheet.{pairs}
use Rattle.ordering.specs.Finding.{ready, next_rule}
use Rattle.precedence.proofs.next_rule.Given as goal

abbrev pub invariant-loop-r : goal.invariant-loop-r
invariant-loop-r l = next_rule (pairs l.sheet) l.placed ≡ find (ready (pairs l.sheet) l.placed) (from (9 - l.r) l.r)
