-- The bytes before this one are zero, and the others as they were.
use Rattle.std.proofs.Common.{◌≡◌, ◌++◌, drop, replicate}
use Rattle.lent.proofs.clear.Given as goal

abbrev pub invariant-loop-byte : goal.invariant-loop-byte
invariant-loop-byte l = l.buffer ≡ replicate l.byte-index 0 ++ drop l.byte-index l.initial.buffer
