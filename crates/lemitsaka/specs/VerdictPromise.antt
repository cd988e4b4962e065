-- What the verdict calls, the derivation calls and the between call promise to C.
use Rattle.std.specs.Prelude.{ℕ, ◌≡◌, List}
use Rattle.logic.specs.Calls.{Outcome, Answer}
use Rattle.codes.specs.Codes.{code, digits_in}
use Rattle.answer_codes.specs.Numbers.{verdict_digits, verdict_read}

-- the answer that a number gives back to C
abbrev pub answer_in : ℕ → Answer
answer_in r = verdict_read (digits_in r)

pub record Codes (outcome : Outcome) (r : ℕ) (bytes : List ℕ) : Type 0 where
  pub answers : r ≡ code (verdict_digits outcome.answer)
  pub leaves : bytes ≡ outcome.lent
