-- The lines from line i on are left.
use Rattle.std.proofs.Common.{◌≡◌, ◌+◌, length}
use Rattle.logic.specs.Derivation.{lines_in}
use Rattle.tally.specs.Counting.{raised, no_lines, Below}
use Rattle.tally.proofs.Counts.{left}
use Rattle.tally.proofs.rule_lines.Given as goal

abbrev pub invariant-loop-i : goal.invariant-loop-i
invariant-loop-i l = (length l.counts ≡ 8) × Below (l.i + 1) l.counts × (raised l.counts (left l.count l.derivation l.i) ≡ raised no_lines (lines_in l.derivation))
