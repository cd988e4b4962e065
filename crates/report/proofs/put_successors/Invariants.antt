-- The successors along the links below k are written. Assumes nothing.
use Rattle.facts.specs.Path.{path_of}
use Rattle.heap_nodes.specs.Nodes.{marked}
use Rattle.report.specs.Bytes.{successors_among}
use Rattle.report.proofs.Successors.{PutRows}
use Rattle.report.proofs.put_successors.Given as goal

abbrev pub invariant-loop-k : goal.invariant-loop-k
invariant-loop-k l =
    PutRows (successors_among l.nodes.terms (path_of l.s) (marked l.nodes.marks l.nodes.terms)) (path_of l.s).links l.at l.k l.to l.initial.buffer l.buffer
