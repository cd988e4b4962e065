-- The numbers written and those left to follow make the ring.
use Rattle.ordering.specs.Sheet.{pairs}
use Rattle.pair_rings.proofs.Turns.{Followed}
use Rattle.pair_rings.proofs.follow_ring.Given as goal

abbrev pub invariant-loop-n : goal.invariant-loop-n
invariant-loop-n l = Followed (pairs l.sheet) l.k l.s l.n l.a l.ring
