-- What the calls promise, on every input: the answer, and every byte of what is lent.
use Rattle.std.specs.Prelude.{ℕ, ◌≡◌, List, length, Option, Some, None}
use Rattle.logic.specs.Walk.{Ending, saturation, Verdict, our_verdict}
use Rattle.logic.specs.Calls.{Input, Outcome}
use Rattle.logic.specs.Calls as calls
use Rattle.facts.specs.Path.{path_of}
use Rattle.facts.specs.declared.Facts as code
use Rattle.prover.specs.declared.Answer.{Answer}
use Rattle.prover.specs.declared.Answer.TheVariants as answer

-- 01's number and place, or verdict, for each case of the enum
abbrev pub meaning : Answer → calls.Answer
meaning answer.Satisfiable = calls.satisfiable
meaning answer.Refuted = calls.refuted
meaning (answer.Refused k place) = calls.refused k place

-- the input of a call: the order list, the query, and the lent bytes as they were
abbrev pub input_of : List ℕ → List ℕ → List ℕ → Input
input_of order query before = record { order = order; query = query; room = length before }

-- a call does what a definition says: it answers so, and leaves these bytes
pub record Does (outcome : Outcome) (r : Answer) (bytes : List ℕ) : Type 0 where
  pub answers : meaning r ≡ outcome.answer
  pub leaves : bytes ≡ outcome.lent

-- how a walk ends: with this path saturated, or refuted
abbrev pub Settles : Ending → Option code.Facts → Type 0
Settles e (Some s) = e ≡ saturation (path_of s)
Settles e None = our_verdict e ≡ Verdict.refuted
