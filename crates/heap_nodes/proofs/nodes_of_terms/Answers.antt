use Rattle.std.proofs.Common.{ap, ◌∙◌, arith}
use lib.ListN.{length-set}
use Rattle.facts.specs.Path.{rep_of}
use Rattle.heap_nodes.specs.Nodes.{node_of}
use Rattle.heap_nodes.proofs.Writing.{filled_more}
use Rattle.heap_nodes.proofs.nodes_of_terms.Goals as goal

pub loop-t-preserved : goal.loop-t-preserved
loop-t-preserved c =
    let l = c.loop-t in
    let a = c.args in (
      simp length-set l.invariant.0,
      filled_more (λ x. node_of a.nodes.now (rep_of a.rep.now x)) 1 l.bytes l.t (omega arith) _
          (c.node_of-node.ensures.0 ∙ ap (node_of a.nodes.now) c.read_rep.ensures) l.invariant.1,
    )
