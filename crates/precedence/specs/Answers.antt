-- The code's answers in the words of the definitions.
use Rattle.std.specs.Prelude.{ℕ, ◌≡◌, List, Result, Ok, Err}
use Rattle.refusals.specs.declared.Refusal.{Refusal}
use Rattle.refusals.specs.Numbers.{number_of}
use Rattle.ordering.specs.Calls.{Outcome, Answer, order, ring, refused}
use Rattle.precedence.specs.declared.OrderAnswer.{OrderAnswer}
use Rattle.precedence.specs.declared.OrderAnswer.TheVariants as answer

-- what each answer says
abbrev pub meaning : Result OrderAnswer Refusal → Answer
meaning (Ok answer.Order) = order
meaning (Ok answer.Ring) = ring
meaning (Err e) = refused (number_of e.fault) e.place

-- the call does what a definition says: it answers so, and leaves these bytes
pub record Does (outcome : Outcome) (r : Result OrderAnswer Refusal) (bytes : List ℕ) : Type 0 where
  pub answers : meaning r ≡ outcome.answer
  pub leaves : bytes ≡ outcome.lent

-- the same of an answer that is no refusal
abbrev pub DoesAnswer : Outcome → OrderAnswer → List ℕ → Type 0
DoesAnswer outcome answer bytes = Does outcome (Ok answer) bytes
