use Rattle.std.proofs.Common.{ap, ◌∙◌, arith}
use lib.ListN.{length-set}
use Rattle.completion.specs.Links.{link_of}
use Rattle.heap_nodes.specs.Nodes.{node_of}
use Rattle.heap_nodes.proofs.Writing.{filled_more}
use Rattle.heap_nodes.proofs.nodes_linked.Goals as goal

pub node_of-node-requires : goal.node_of-node-requires
unfolding link_of
node_of-node-requires c = omega (arith, c.requires.1 c.loop-t.t (omega arith))

pub loop-t-preserved : goal.loop-t-preserved
unfolding link_of
loop-t-preserved c =
    let l = c.loop-t in
    let a = c.args in (
      simp length-set l.invariant.0,
      filled_more (λ x. node_of a.nodes.now (link_of a.links.now x)) 0 l.bytes l.t (omega arith) _
          (c.node_of-node.ensures.0 ∙ ap (node_of a.nodes.now) c.from.ensures) l.invariant.1,
    )
