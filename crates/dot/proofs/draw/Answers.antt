-- The parts of the text, and the closing line. Assumes nothing.
use Rattle.std.proofs.Common.{ℕ, ◌+◌, ◌≡◌, List, ◌++◌, length, arith, ap, append_assoc, length-append}
use Rattle.text.proofs.Writing.{writes_as}
use Rattle.drawing.specs.Text.{opening, closing, comment_line, text}
use Rattle.dot_text.specs.Parts.{head, nodes, arrows}
use Rattle.dot.proofs.draw.Goals as goal

module _ (report : List ℕ) where
  parts : head report ++ (nodes report ++ (arrows report ++ closing)) ≡ text report
  unfolding text
  parts = append_assoc opening (comment_line report) (nodes report ++ (arrows report ++ closing))

  sizes : length (head report) + length (nodes report) + length (arrows report) + 2 ≡ length (text report)
  sizes = omega (
    arith,
    ap length parts,
    length-append (head report) (nodes report ++ (arrows report ++ closing)),
    length-append (nodes report) (arrows report ++ closing),
    length-append (arrows report) closing,
  )

pub draw-requires : goal.draw-requires
draw-requires c = omega (arith, sizes c.args.report.now)

pub returns : goal.returns
returns c = writes_as (parts c.args.report.now) c.draw.ensures
