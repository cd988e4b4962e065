-- What is left of the search equals the whole.
use Rattle.std.proofs.Common.{◌≡◌, ◌-◌}
use Rattle.logic.specs.Search.{from, find}
use Rattle.ordering.specs.Sheet.{pairs}
use Rattle.ordering.specs.Finding.{leads, ring_start}
use Rattle.pair_rings.proofs.ring_start.Given as goal

abbrev pub invariant-loop-s : goal.invariant-loop-s
invariant-loop-s l = ring_start (pairs l.sheet) l.k ≡ find (λ x. leads (pairs l.sheet) l.k x x) (from (9 - l.s) l.s)
