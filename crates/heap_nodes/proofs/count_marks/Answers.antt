use Rattle.std.proofs.Common.{arith}
use Rattle.heap_nodes.specs.Nodes.{marked}
use Rattle.heap_nodes.proofs.Nodes.{counted_skip, counted_here, counted_all}
use Rattle.heap_nodes.proofs.count_marks.Goals as goal
use Rattle.heap_nodes.proofs.count_marks.Goals.{then-marks-t, else-marks-t}

pub loop-t-preserved : goal.loop-t-preserved
loop-t-preserved c =
    elim c.if-marks-t.branch [
      | then-marks-t w ↦ rw w.count-is (omega arith, counted_here _ _ _ _ _ c.loop-t.invariant.1 (omega arith) w.if-marks-t.true)
      | else-marks-t w ↦ rw w.count-is (omega arith, counted_skip _ _ _ _ _ c.loop-t.invariant.1 (omega arith) w.if-marks-t.false)
    ]

pub returns : goal.returns
unfolding marked
returns c = counted_all _ _ _ _ _ c.loop-t.invariant.1 (omega arith)
