-- The lines from line i on are left.
use Rattle.std.proofs.Common.{◌≡◌, ◌+◌, ◌*◌, ◌≤◌, length}
use Rattle.logic.specs.Search.{flat_map}
use Rattle.logic.specs.Derivation.{lines_in}
use Rattle.text.proofs.Writing.{Part}
use Rattle.wording.specs.Words.{line_text}
use Rattle.printing.proofs.Texts.{lines_left}
use Rattle.printing.proofs.put_lines.Given as goal

abbrev pub invariant-loop-i : goal.invariant-loop-i
invariant-loop-i l = (l.to ≤ l.at + 16 * l.i) × (l.count ≡ length (lines_in l.lines))
    × Part l.initial.buffer l.at (flat_map line_text (lines_in l.lines)) l.buffer l.to (lines_left l.count l.lines l.i)
