-- The terms below t have their bytes. Assumes nothing.
use Rattle.std.proofs.Common.{◌≡◌, ℕ, ◌≤◌, ◌<◌, length, get_or}
use Rattle.facts.specs.Path.{rep_of}
use Rattle.heap_nodes.specs.Nodes.{node_of}
use Rattle.heap_nodes.proofs.nodes_of_terms.Given as goal

abbrev pub invariant-loop-t : goal.invariant-loop-t
invariant-loop-t l =
    (length l.bytes ≡ 17) × ((x : ℕ) → 1 ≤ x → x < l.t → get_or l.bytes x 0 ≡ node_of l.nodes (rep_of l.rep x))
