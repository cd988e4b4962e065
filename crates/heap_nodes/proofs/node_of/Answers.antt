-- The byte of the list. Assumes nothing.
use Rattle.std.proofs.Common.{rules}
use Rattle.heap_nodes.specs.Nodes.{node_of}
use Rattle.heap_nodes.proofs.node_of.Goals as goal

pub returns : goal.returns
unfolding node_of
returns c = search rules
