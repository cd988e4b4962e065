-- What is written and what is left make the whole; a node's number is its term's place. Assumes nothing.
use Rattle.std.proofs.Common.{false, get_or}
use Rattle.heap_nodes.proofs.Writing.{PutAt}
use Rattle.heap_nodes.proofs.put_nodes.Given as goal

abbrev pub invariant-loop-t : goal.invariant-loop-t
invariant-loop-t l = PutAt (λ x. get_or l.marks x false) (λ x. get_or l.bytes x 0) l.n l.at l.t l.initial.buffer l.buffer
