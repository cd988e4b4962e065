-- What the call promises, on every input: the answer, and every byte of what is lent.
use Rattle.std.specs.Prelude.{ℕ, ◌≡◌, true, List, Result, Ok, Err}
use Rattle.query.specs.LaysOut.{FullLaysOut}
use Rattle.query.specs.declared.FullLayout.{FullLayout}
use Rattle.rewriting.specs.OldQuery.{accepts_old}
use Rattle.encoding.specs.WritingCall.{Outcome}
use Rattle.encoding.specs.WritingCall as call
use Rattle.refusals.specs.declared.Refusal.{Refusal}
use Rattle.refusals.specs.Numbers.{number_of}

-- the length, or 02's number and place
abbrev pub meaning : Result ℕ Refusal → call.Answer
meaning (Ok length) = call.written length
meaning (Err e) = call.refused (number_of e.fault) e.place

-- the call does what a definition says: it answers so, and leaves these bytes
pub record Does (outcome : Outcome) (r : Result ℕ Refusal) (bytes : List ℕ) : Type 0 where
  pub answers : meaning r ≡ outcome.answer
  pub leaves : bytes ≡ outcome.lent

-- an old query that passes its checks, and where its sections stand
pub record Passing (l : FullLayout) (bytes : List ℕ) : Type 0 where
  pub laid : FullLaysOut l bytes 60 3
  pub accepted : accepts_old bytes ≡ true
