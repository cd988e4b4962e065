-- The terms below t are marked. Assumes nothing.
use lib.Dec.{eqb}
use Rattle.facts.specs.Path.{rep_of}
use Rattle.heap_nodes.proofs.Nodes.{Marked}
use Rattle.heap_nodes.proofs.mark_nodes.Given as goal

abbrev pub invariant-loop-t : goal.invariant-loop-t
invariant-loop-t l = Marked (λ x. eqb (rep_of l.rep x) x) l.n l.t l.marks l.none
