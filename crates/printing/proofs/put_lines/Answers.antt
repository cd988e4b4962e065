-- The lines from line i on are left.
use Rattle.std.proofs.Common.{refl, arith}
use Rattle.text.proofs.Writing.{part_from, part_more, part_all}
use Rattle.printing.proofs.Texts.{lines_whole, lines_next, lines_end, lines-count}
use Rattle.printing.proofs.put_lines.Goals as goal

pub loop-i-init : goal.loop-i-init
loop-i-init c = (omega arith, omega (arith, lines-count c.args.lines.now), part_from _ _ (lines_whole _ _ (omega arith)))

pub loop-i-preserved : goal.loop-i-preserved
loop-i-preserved c = (
  omega (arith, c.put_line-to.ensures.1),
  c.loop-i.invariant.1,
  part_more c.loop-i.invariant.2 (lines_next _ _ c.loop-i.i _ refl (omega arith)) c.put_line-to.ensures.0,
)

pub returns : goal.returns
returns c = (part_all c.loop-i.invariant.2 (lines_end _ _ _ (omega arith)), omega arith)
