-- What is left of the search equals the whole.
use Rattle.std.proofs.Common.{◌≡◌, ◌-◌}
use Rattle.logic.specs.Search.{from, find}
use Rattle.ordering.specs.Sheet.{pairs}
use Rattle.ordering.specs.Finding.{onward}
use Rattle.pair_rings.proofs.next_on.Given as goal

abbrev pub invariant-loop-r : goal.invariant-loop-r
invariant-loop-r l = find (onward (pairs l.sheet) l.z l.k l.a) (from 8 1) ≡ find (onward (pairs l.sheet) l.z l.k l.a) (from (9 - l.r) l.r)
