-- What the formula call promises to C.
use Rattle.std.specs.Prelude.{ℕ, ◌≡◌, List}
use Rattle.formula.specs.Call.{Outcome}
use Rattle.codes.specs.Codes.{code}
use Rattle.answer_codes.specs.Numbers.{formula_digits}

pub record CodesFormula (outcome : Outcome) (r : ℕ) (bytes : List ℕ) : Type 0 where
  pub answers : r ≡ code (formula_digits outcome.answer)
  pub leaves : bytes ≡ outcome.lent
