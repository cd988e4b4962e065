use Rattle.std.proofs.Common.{◌≡◌, ◌≤◌, drop}
use Rattle.formula.specs.Grammar.{shown}
use Rattle.formula.specs.Places.{digits_at}
use Rattle.formula_reader.specs.Answers.{saturated}
use Rattle.formula_reader.proofs.place_at.Given as goal

abbrev pub invariant-loop-i : goal.invariant-loop-i
invariant-loop-i l =
    (l.v ≤ 100) × (saturated (shown l.v (digits_at (drop l.i l.text))) ≡ saturated (shown 0 (digits_at (drop l.at l.text))))
