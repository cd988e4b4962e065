-- What the dot call promises to C.
use Rattle.std.specs.Prelude.{ℕ, ◌≤◌, ◌≡◌, List}
use Rattle.drawing.specs.Call.{Outcome, written}
use Rattle.codes.specs.Codes.{code}
use Rattle.answer_codes.specs.Numbers.{dot_digits}

pub record DotCodes (outcome : Outcome) (r : ℕ) (bytes : List ℕ) : Type 0 where
  pub answers : r ≡ code (dot_digits outcome.answer)
  pub leaves : bytes ≡ outcome.lent
  -- no text is longer: what the call is lent is bytes, each below 256
  pub short : (n : ℕ) → outcome.answer ≡ written n → n ≤ 508
