-- What is left of the lengths answers for all.
use Rattle.std.proofs.Common.{◌≡◌, ◌-◌, ◌≤◌}
use Rattle.logic.specs.Search.{from, first_of}
use Rattle.ordering.specs.Sheet.{pairs}
use Rattle.ordering.specs.Finding.{ring_of}
use Rattle.pair_rings.proofs.shown_ring.Given as goal

abbrev pub invariant-loop-k : goal.invariant-loop-k
invariant-loop-k l = (1 ≤ l.k) × (first_of (ring_of (pairs l.sheet)) (from 8 1) ≡ first_of (ring_of (pairs l.sheet)) (from (9 - l.k) l.k))
