use Rattle.std.proofs.Common.{◌≡◌, drop}
use Rattle.formula.specs.Places.{past_digits}
use Rattle.formula_reader.proofs.past_digits.Given as goal

abbrev pub invariant-loop-i : goal.invariant-loop-i
invariant-loop-i l = past_digits (drop l.i l.text) ≡ past_digits (drop l.at l.text)
