-- What the between call promises, on every input: the answer, and every byte of what is lent.
use Rattle.std.specs.Prelude.{ℕ, ◌*◌, ◌≤◌, ◌≡◌, true, List, length, Result, Ok, Err}
use Rattle.std.proofs.Math.Option.{some}
use Rattle.logic.specs.Calls.{Answer, refused, satisfiable, refuted, Outcome, accepts}
use Rattle.query.specs.declared.Layout.{Layout}
use Rattle.query.specs.LaysOut.{LaysOut}
use Rattle.between_search.specs.Search.{Found, entry, heap_found}
use Rattle.between_seek.specs.Answers.{query_in}
use Rattle.refusals.specs.declared.Refusal.{Refusal}
use Rattle.refusals.specs.Numbers.{number_of}
use Rattle.between_call.specs.declared.BetweenAnswer.{BetweenAnswer}
use Rattle.between_call.specs.declared.BetweenAnswer.TheVariants as answer

-- what each answer says
abbrev pub meaning : Result BetweenAnswer Refusal → Answer
meaning (Ok answer.Heap) = satisfiable
meaning (Ok answer.Nothing) = refuted
meaning (Err e) = refused (number_of e.fault) e.place

-- the call does what a definition says: it answers so, and leaves these bytes
pub record Does (outcome : Outcome) (r : Result BetweenAnswer Refusal) (bytes : List ℕ) : Type 0 where
  pub answers : meaning r ≡ outcome.answer
  pub leaves : bytes ≡ outcome.lent

-- What a report is written of: five sections that are accepted, and a heap whose nodes are few.
pub record Reportable (l : Layout) (base links nodes : List ℕ) : Type 0 where
  pub laid : LaysOut l base
  pub passes : accepts base ≡ true
  pub few_links : entry links 0 ≤ 5
  pub few_nodes : (t : ℕ) → 1 ≤ t → t ≤ l.terms → entry nodes t ≤ 5

-- What the search is asked of: five sections that are accepted and have few terms, and the between literals; what is found is small.
pub record Asked (base : List ℕ) (l : Layout) (between : List ℕ) (count : ℕ) : Type 0 where
  pub laid : LaysOut l base
  pub passes : accepts base ≡ true
  pub few : l.terms ≤ 5
  pub between_fit : 4 * count ≡ length between
  pub small : (c : Found) → heap_found (query_in base between) ≡ some c → (entry c.links 0 ≤ 5) × ((t : ℕ) → 1 ≤ t → t ≤ l.terms → entry c.nodes t ≤ 5)
