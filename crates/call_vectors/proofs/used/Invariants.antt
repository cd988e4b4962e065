-- No more than there are; the measure is the count of bytes left.
use Rattle.std.proofs.Common.{◌≤◌, length}
use Rattle.call_vectors.proofs.used.Given as goal

abbrev pub invariant-loop-n : goal.invariant-loop-n
invariant-loop-n l = l.n ≤ length l.bytes

abbrev pub decreases-loop-n : goal.decreases-loop-n
decreases-loop-n l = l.n
