-- What the call promises, on every input: the answer, and every byte of what is lent.
use Rattle.std.specs.Prelude.{ℕ, ◌≡◌, List, Result, Ok, Err}
use Rattle.drawing.specs.Call.{Outcome}
use Rattle.drawing.specs.Call as call
use Rattle.refusals.specs.declared.Refusal.{Refusal}
use Rattle.refusals.specs.Numbers.{number_of}

-- the length, or 02's number and place
abbrev pub meaning : Result ℕ Refusal → call.Answer
meaning (Ok length) = call.written length
meaning (Err e) = call.refused (number_of e.fault) e.place

-- the call does what a definition says: it answers so, and leaves these bytes
pub record Does (outcome : Outcome) (r : Result ℕ Refusal) (bytes : List ℕ) : Type 0 where
  pub answers : meaning r ≡ outcome.answer
  pub leaves : bytes ≡ outcome.lent
