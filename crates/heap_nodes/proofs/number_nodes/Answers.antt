use Rattle.std.proofs.Common.{arith, rules}
use lib.ListN.{length-set}
use Rattle.heap_nodes.specs.Nodes.{marked}
use Rattle.heap_nodes.proofs.Nodes.{numbered_none, numbered_skip, numbered_here, numbered_all, node_repeat, node_set}
use Rattle.heap_nodes.proofs.number_nodes.Goals as goal
use Rattle.heap_nodes.proofs.number_nodes.Goals.{then-marks-t, else-marks-t}

pub loop-t-init : goal.loop-t-init
unfolding marked
loop-t-init c = (omega arith, search rules, numbered_none _ _ _ _ c.requires.2 (λ x h. node_repeat _ x h))

pub loop-t-preserved : goal.loop-t-preserved
loop-t-preserved c =
    let l = c.loop-t in
    elim c.if-marks-t.branch [
      | then-marks-t w ↦ rw (w.nodes-is, w.k-is)
          (omega arith, simp length-set l.invariant.1, numbered_here _ _ _ _ _ _ l.invariant.2 (omega arith) (omega arith) w.if-marks-t.true _ (λ x. node_set l.nodes l.t (omega arith) _ x))
      | else-marks-t w ↦ rw (w.nodes-is, w.k-is)
          (omega arith, l.invariant.1, numbered_skip _ _ _ _ _ _ l.invariant.2 (omega arith) (omega arith) w.if-marks-t.false)
    ]

pub returns : goal.returns
unfolding marked
returns c = numbered_all _ _ _ _ _ _ c.loop-t.invariant.2 (omega arith)
