-- What is left of the pairs answers for all.
use Rattle.std.proofs.Common.{◌≡◌, ◌-◌}
use Rattle.logic.specs.Search.{from, any}
use Rattle.ordering.specs.Sheet.{pairs, paired}
use Rattle.pair_rings.proofs.Turns.{joins}
use Rattle.pair_rings.proofs.is_paired.Given as goal

abbrev pub invariant-loop-i : goal.invariant-loop-i
invariant-loop-i l = paired (pairs l.sheet) l.a l.b ≡ any (joins l.sheet l.a l.b) (from (l.end - l.i) l.i)
