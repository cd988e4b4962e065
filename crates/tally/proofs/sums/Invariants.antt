-- The sums before k are made, and fit.
use Rattle.std.proofs.Common.{◌≡◌, length, drop}
use Rattle.tally.specs.Counting.{plus, fits}
use Rattle.tally.proofs.Counts.{Summed}
use Rattle.tally.proofs.sums.Given as goal

abbrev pub invariant-loop-k : goal.invariant-loop-k
invariant-loop-k l = (length l.next ≡ 8) × (fits (plus (drop l.k l.counts) (drop l.k l.more)) ≡ fits (plus l.counts l.more)) × Summed l.counts l.more l.next l.k
