-- The bytes of the terms up to t are written. Assumes nothing.
use Rattle.std.proofs.Common.{◌+◌, get_or}
use lib.Dec.{ltb}
use Rattle.heap_nodes.proofs.Writing.{Put}
use Rattle.report.proofs.put_terms.Given as goal

abbrev pub invariant-loop-t : goal.invariant-loop-t
invariant-loop-t l = Put (ltb 0) (λ x. get_or l.bytes x 0) l.n l.at (l.t + 1) (l.at + l.t) l.initial.buffer l.buffer
