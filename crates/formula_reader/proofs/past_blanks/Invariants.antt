use Rattle.std.proofs.Common.{◌≡◌, drop}
use Rattle.formula.specs.Reader.{past_blanks}
use Rattle.formula_reader.proofs.past_blanks.Given as goal

abbrev pub invariant-loop-i : goal.invariant-loop-i
invariant-loop-i l = past_blanks (drop l.i l.text) ≡ past_blanks (drop l.at l.text)
