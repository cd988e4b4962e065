-- What the calls promise, on every input: the answer, and every byte of what is lent.
use Rattle.std.specs.Prelude.{ℕ, ◌+◌, ◌≤◌, ◌≡◌, true, List, Result, Ok, Err}
use Rattle.logic.specs.Calls.{accepts}
use Rattle.query.specs.declared.Layout.{Layout}
use Rattle.query.specs.LaysOut.{LaysOut}
use Rattle.query_checks.specs.Answers.{CheckedAs}
use Rattle.refusals.specs.Numbers.{number_of}
use Rattle.joining.specs.Call.{Outcome}
use Rattle.joining.specs.Call as call
use Rattle.joining.specs.HandBack as hand
use Rattle.joiner.specs.declared.JoinRefusal.{JoinRefusal}
use Rattle.joiner.specs.declared.JoinRefusal.TheVariants as refusal
use Rattle.joiner.specs.declared.HandBack.{HandBack}
use Rattle.joiner.specs.declared.HandBack.TheVariants as back

-- the length, or 02's number and place, for each case of the answer
abbrev pub meaning : Result ℕ JoinRefusal → call.Answer
meaning (Ok length) = call.written length
meaning (Err (refusal.First e)) = call.first_refused (number_of e.fault) e.place
meaning (Err (refusal.Second e)) = call.second_refused (number_of e.fault) e.place
meaning (Err (refusal.Neither e)) = call.refused (number_of e.fault) e.place

-- the call does what a definition says: it answers so, and leaves these bytes
pub record Does (outcome : Outcome) (r : Result ℕ JoinRefusal) (bytes : List ℕ) : Type 0 where
  pub answers : meaning r ≡ outcome.answer
  pub leaves : bytes ≡ outcome.lent

-- the offset and length, or 02's number and place, for each case of the answer
abbrev pub handed : Result HandBack JoinRefusal → hand.Handed
handed (Ok (back.InFirst at size)) = hand.in_first at size
handed (Ok (back.InSecond at size)) = hand.in_second at size
handed (Err (refusal.First e)) = hand.first_refused (number_of e.fault) e.place
handed (Err (refusal.Second e)) = hand.second_refused (number_of e.fault) e.place
handed (Err (refusal.Neither e)) = hand.refused (number_of e.fault) e.place

-- a part that is handed back lies in its query, whose length is given
abbrev pub Inside : ℕ → ℕ → Result HandBack JoinRefusal → Type 0
Inside first second (Ok (back.InFirst at size)) = at + size ≤ first
Inside first second (Ok (back.InSecond at size)) = at + size ≤ second
Inside first second (Err e) = Unit {0}

-- a query that passes its checks, and where its sections stand
pub record Passing (l : Layout) (bytes : List ℕ) : Type 0 where
  pub laid : LaysOut l bytes
  pub accepted : accepts bytes ≡ true

-- the checks of two queries: those of the first, and where it passes those of the second
abbrev pub BothChecked : Result (Layout × Layout) JoinRefusal → List ℕ → List ℕ → Type 0
BothChecked (Ok ls) first second = CheckedAs (Ok ls.0) first × CheckedAs (Ok ls.1) second
BothChecked (Err (refusal.First e)) first second = CheckedAs (Err e) first
BothChecked (Err (refusal.Second e)) first second = (l : Layout) × CheckedAs (Ok l) first × CheckedAs (Err e) second
BothChecked (Err (refusal.Neither e)) first second = ⊥
