-- The terms below t are numbered. Assumes nothing.
use Rattle.std.proofs.Common.{◌≡◌, ◌≤◌, false, length, get_or}
use Rattle.heap_nodes.specs.Nodes.{node_of}
use Rattle.heap_nodes.proofs.Nodes.{Numbered}
use Rattle.heap_nodes.proofs.number_nodes.Given as goal

abbrev pub invariant-loop-t : goal.invariant-loop-t
invariant-loop-t l = (l.k ≤ l.t) × (length l.nodes ≡ 17) × Numbered (λ x. get_or l.marks x false) l.n l.m l.t l.k (node_of l.nodes)
