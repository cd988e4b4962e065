use Rattle.std.proofs.Common.{arith}
use lib.ListN.{length-set}
use Rattle.logic.specs.Shown.{byte_of}
use Rattle.rows.specs.Square.{square}
use Rattle.heap_nodes.proofs.Writing.{filled_more}
use Rattle.report.proofs.row_bytes.Goals as goal

pub loop-v-preserved : goal.loop-v-preserved
loop-v-preserved c =
    let l = c.loop-v in (
      simp length-set l.invariant.0,
      filled_more (λ x. byte_of (square c.args.marks.now x) 1 8) 0 l.bytes l.v (omega arith) _ c.row_byte.ensures l.invariant.1,
    )
