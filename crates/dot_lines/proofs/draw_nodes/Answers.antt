use Rattle.std.proofs.Common.{◌+◌, arith}
use Rattle.logic.specs.Shown.{size_in}
use Rattle.text.proofs.Writing.{part_more, part_all}
use Rattle.drawing.specs.Text.{node_line}
use Rattle.dot_lines.proofs.Laws.{lines, lines_all, lines_next, lines_end, part_start, part_room}
use Rattle.dot_lines.proofs.draw_nodes.Goals as goal

pub loop-v-init : goal.loop-v-init
loop-v-init c = let report = c.args.report.now in part_start _ _ (lines_all (node_line report) (size_in report))

pub draw_node-to-requires : goal.draw_node-to-requires
draw_node-to-requires c =
    let report = c.args.report.now in
    let at = c.loop-v in
    let next = lines_next (node_line report) (size_in report) at.v (omega (arith, c.size_in-m.ensures.0)) in
    (omega arith, part_room (node_line report at.v) (lines (node_line report) (size_in report) (at.v + 1)) at.invariant next c.requires)

pub loop-v-preserved : goal.loop-v-preserved
loop-v-preserved c =
    let report = c.args.report.now in
    let at = c.loop-v in
    part_more at.invariant (lines_next (node_line report) (size_in report) at.v (omega (arith, c.size_in-m.ensures.0))) c.draw_node-to.ensures

pub returns : goal.returns
returns c =
    let report = c.args.report.now in
    part_all c.loop-v.invariant (lines_end (node_line report) (size_in report) c.loop-v.v (omega (arith, c.size_in-m.ensures.0)))
