-- What is written and the lines left make the whole. Assumes nothing.
use Rattle.logic.specs.Search.{from, flat_map}
use Rattle.logic.specs.Shown.{size_in}
use Rattle.text.proofs.Writing.{Part}
use Rattle.drawing.specs.Text.{arrow_line}
use Rattle.dot_lines.proofs.Laws.{lines}
use Rattle.dot_lines.proofs.draw_arrows.Given as goal

abbrev pub invariant-loop-v : goal.invariant-loop-v
invariant-loop-v l =
    Part l.initial.out l.fill (flat_map (arrow_line l.report) (from (size_in l.report) 1)) l.out l.to (lines (arrow_line l.report) (size_in l.report) l.v)
