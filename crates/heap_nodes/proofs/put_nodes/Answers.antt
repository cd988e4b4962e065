use Rattle.std.proofs.Common.{refl, ◌∙◌, arith}
use Rattle.heap_nodes.specs.Nodes.{marked}
use Rattle.heap_nodes.proofs.Writing.{put-at-none, put-at_skip, put-at-place, put-at_room, put-at-here, put-at_all}
use Rattle.heap_nodes.proofs.put_nodes.Goals as goal
use Rattle.heap_nodes.proofs.put_nodes.Goals.{then-marks-t, else-marks-t}

pub loop-t-init : goal.loop-t-init
loop-t-init c = put-at-none _ _ _ _ _

-- the node of t is its place, and there is room for its byte
pub overflow_sub-to : goal.overflow_sub-to
unfolding marked
overflow_sub-to c =
    let l = c.loop-t in
    omega (arith, put-at-place _ _ _ _ _ _ _ l.invariant (omega arith) c.if-marks-t.true _ (c.node_of-node.ensures.0 ∙ c.requires.2 l.t (omega arith)))

pub bounds-buffer-to : goal.bounds-buffer-to
unfolding marked
bounds-buffer-to c =
    let l = c.loop-t in
    put-at_room _ _ _ _ _ _ _ l.invariant (omega arith) c.if-marks-t.true _ (c.node_of-node.ensures.0 ∙ c.requires.2 l.t (omega arith)) c.requires.1

pub loop-t-preserved : goal.loop-t-preserved
unfolding marked
loop-t-preserved c =
    let l = c.loop-t in
    elim c.if-marks-t.branch [
      | then-marks-t w ↦ rw w.buffer-is
          (put-at-here _ _ _ _ _ _ _ l.invariant (omega arith) w.if-marks-t.true _ (w.node_of-node.ensures.0 ∙ c.requires.2 l.t (omega arith)) c.requires.1 _ refl)
      | else-marks-t w ↦ rw w.buffer-is (put-at_skip _ _ _ _ _ _ _ l.invariant (omega arith) w.if-marks-t.false)
    ]

pub returns : goal.returns
unfolding marked
returns c = put-at_all _ _ _ _ _ _ _ c.loop-t.invariant (omega arith)
