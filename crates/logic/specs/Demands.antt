-- The three demands (00), each beside its own words, as statements about the definitions. A call of the library is equated with
-- `verdict_call` or `derivation_call` by its contract, so what is said here of them is said of it.
use Rattle.std.specs.Prelude.{ℕ, ◌+◌, ◌*◌, ◌≤◌, ◌<◌, ◌≡◌, ◌↔◌, ◌⊎◌, true, length, replicate}
use mathlib.Core.List.{List, [], ◌∷◌, ◌++◌, map, Memᴰ}
use Rattle.std.proofs.Math.Option.{none, some}
use Rattle.logic.specs.Query.{Query, is_order, term_count}
use Rattle.logic.specs.Heap.{Meets, Satisfiable, value}
use Rattle.logic.specs.Facts.{Line}
use Rattle.logic.specs.Walk.{Verdict, Pick, our_walk, our_verdict, hand_row, hand_verdict, Ending, refutation}
use Rattle.logic.specs.Derivation.{Derivation, derivation_bytes, lines_in}
use Rattle.logic.specs.Shown.{heap_in, node_in, well_formed}
use Rattle.logic.specs.Calls.{Input, Check, CallForm, one_link_form, verdict_checks_of, derivation_checks_of, Outcome, Answer, refused, accepts_by, padded, verdict_call_of, derivation_call_of}

-- no refusal
abbrev pub NotRefused : Answer → Type 0
NotRefused a = (k place : ℕ) → a ≡ refused k place → ⊥

-- none of the checks stands
abbrev pub NoneStands : List Check → Input → Type 0
NoneStands cs i = (c : Check) → Memᴰ c cs → c.place i ≡ none

-- "Refusals, in checking order": check k stands, at this place, and none before it does
pub record FirstStands (cs : List Check) (i : Input) (k place : ℕ) : Type 0 where
  pub before : List Check
  pub check : Check
  pub behind : List Check
  pub in_order : cs ≡ before ++ (check ∷ behind)
  pub numbered : check.number ≡ k
  pub stands : check.place i ≡ some place
  pub none_before : NoneStands before i

-- the numbers of checks, in their order
abbrev pub numbers : List Check → List ℕ
numbers cs = map (λ (c : Check). c.number) cs

-- our walk of what a call is given
abbrev pub walk_of : CallForm → Input → Ending
walk_of f i = our_walk i.order (f.decode i.query)

-- How a call refuses whose checks are cs, and whose longest query has so many bytes. For every input:
pub record Refusals (cs : List Check) (longest : ℕ) (outcome : Input → Outcome) : Type 0 where
  -- the refusal answered, if it is not 11 or 12, is the first in checking order whose condition stands
  pub first_exactly : (i : Input) (k place : ℕ) → Memᴰ k (numbers cs) → ((outcome i).answer ≡ refused k place) ↔ FirstStands cs i k place
  -- where the condition of a check stands, there is a refusal: the first of that check and those before it
  pub refusal_made : (i : Input) (c : Check) (before behind : List Check) (place : ℕ) → cs ≡ before ++ (c ∷ behind) → c.place i ≡ some place → (k : ℕ) × (p : ℕ) × ((outcome i).answer ≡ refused k p) × FirstStands (before ++ (c ∷ [])) i k p
  -- "10 is withdrawn" (02, R-5)
  pub never_ten : (i : Input) (place : ℕ) → (outcome i).answer ≡ refused 10 place → ⊥
  -- a number is that of a check, 11 or 12, and a place is not past the query's end nor past that of the longest query
  pub refusal_numbered : (i : Input) (k place : ℕ) → (outcome i).answer ≡ refused k place → Memᴰ k (numbers cs ++ (11 ∷ 12 ∷ []))
  pub refusal_placed : (i : Input) (k place : ℕ) → (outcome i).answer ≡ refused k place → (place ≤ length i.query) × (place ≤ longest)
  -- a refusal leaves zero in all that was lent, and the call writes just that in any case
  pub refusal_blank : (i : Input) (k place : ℕ) → (outcome i).answer ≡ refused k place → (outcome i).lent ≡ replicate i.room 0
  pub lent_whole : (i : Input) → length (outcome i).lent ≡ i.room

-- lines that a derivation in this room may have, or not: "12. The derivation has more than 16,000 lines or its buffer cannot hold it."
abbrev pub Fits : ℕ → List Line → Type 0
Fits room ls = (length ls ≤ 16000) × (2 + 4 * length ls ≤ room)

abbrev pub Exceeds : ℕ → List Line → Type 0
Exceeds room ls = (16000 < length ls) ⊎ (room < 2 + 4 * length ls)

-- two calls are given one order list and one query, and what room you like
abbrev pub Alike : Input → Input → Type 0
Alike i j = (i.order ≡ j.order) × (i.query ≡ j.query)

-- DEMAND 1. "The answer to every order list and every string of query bytes is a heap, a refutation or one of the numbered refusals,
-- each refusal under its own stated condition only. A refusal leaves zero in all of the lent report. The caller vouches for nothing."
-- An answer is one of the three by its type. As to the rest, for every input of the calls that take this form of query:
pub record Demand1 (f : CallForm) : Type 0 where
  -- each refusal under its own stated condition only, with all of the lent output zero
  pub verdict_refusals : Refusals (verdict_checks_of f) f.longest (verdict_call_of f)
  pub derivation_refusals : Refusals (derivation_checks_of f) f.longest (derivation_call_of f)
  -- the verdict call: there is no refusal but by a check, and a report that shows a heap is well formed
  pub verdict_numbered : (i : Input) (k place : ℕ) → (verdict_call_of f i).answer ≡ refused k place → Memᴰ k (numbers (verdict_checks_of f))
  pub report_formed : (i : Input) → (verdict_call_of f i).answer ≡ Answer.satisfiable → well_formed f.links (verdict_call_of f i).lent ≡ true
  -- the derivation call: 11 exactly where no check stands and some finite heap meets the query; 12 exactly where
  -- no check stands, none does, and the lines are too many; "refuted" exactly where no check stands and the lines are not too many
  pub heap_exactly : (i : Input) (place : ℕ) → ((derivation_call_of f i).answer ≡ refused 11 place) ↔ ((place ≡ 0) × NoneStands (derivation_checks_of f) i × Satisfiable (f.decode i.query))
  pub excess_exactly : (i : Input) (place : ℕ) → ((derivation_call_of f i).answer ≡ refused 12 place) ↔ ((place ≡ 0) × NoneStands (derivation_checks_of f) i × (Satisfiable (f.decode i.query) → ⊥) × ((ls : List Line) × (walk_of f i ≡ refutation ls) × Exceeds i.room ls))
  pub lines_exactly : (i : Input) → ((derivation_call_of f i).answer ≡ Answer.refuted) ↔ (NoneStands (derivation_checks_of f) i × ((ls : List Line) × (walk_of f i ≡ refutation ls) × Fits i.room ls))
  pub never_satisfiable : (i : Input) → (derivation_call_of f i).answer ≡ Answer.satisfiable → ⊥
  -- both calls have one verdict: where both give one, and where the derivation call is refused for it
  pub one_verdict : (i j : Input) → Alike i j → NotRefused (verdict_call_of f i).answer → NotRefused (derivation_call_of f j).answer → (verdict_call_of f i).answer ≡ (derivation_call_of f j).answer
  pub one_heap : (i j : Input) → Alike i j → f.room ≤ i.room → ((verdict_call_of f i).answer ≡ Answer.satisfiable) ↔ ((derivation_call_of f j).answer ≡ refused 11 0)

-- "The verdict call uses 1 to 10. The derivation call uses 1 to 8 and 10 to 12", in checking order: the numbers of their checks in the form
-- of 01. 10 is withdrawn, and 11 and 12 are no checks.
pub record ChecksInOrder : Type 0 where
  pub verdict_checks : numbers (verdict_checks_of one_link_form) ≡ 1 ∷ 2 ∷ 3 ∷ 26 ∷ 4 ∷ 5 ∷ 6 ∷ 7 ∷ 8 ∷ 9 ∷ []
  pub derivation_checks : numbers (derivation_checks_of one_link_form) ≡ 1 ∷ 2 ∷ 3 ∷ 26 ∷ 4 ∷ 5 ∷ 6 ∷ 7 ∷ 8 ∷ []

-- "the heap shown is one": the heap in these report bytes meets the query, and each term's node is the one listed for it
pub record Shows (bytes : List ℕ) (q : Query) : Type 0 where
  pub meets : Meets (heap_in q.links bytes) q
  pub listed : (t : ℕ) → 1 ≤ t → t ≤ term_count q → value (heap_in q.links bytes) q.entries t ≡ node_in bytes t

-- DEMAND 2. "A verdict call that is not refused says "satisfiable" exactly when some finite heap .. meets every literal, and the heap
-- shown is one. It says "refuted" exactly when no finite heap of any size does. A derivation, where one is given, follows the eight
-- rules line by line."
pub record Demand2 (f : CallForm) : Type 0 where
  pub satisfiable_exactly : (i : Input) → NotRefused (verdict_call_of f i).answer → ((verdict_call_of f i).answer ≡ Answer.satisfiable) ↔ Satisfiable (f.decode i.query)
  pub heap_shown : (i : Input) → (verdict_call_of f i).answer ≡ Answer.satisfiable → Shows (verdict_call_of f i).lent (f.decode i.query)
  pub refuted_exactly : (i : Input) → NotRefused (verdict_call_of f i).answer → ((verdict_call_of f i).answer ≡ Answer.refuted) ↔ (Satisfiable (f.decode i.query) → ⊥)
  -- where a derivation is given, the lines in the bytes left are those of our walk, and they follow the rules
  pub derivation_follows : (i : Input) → (derivation_call_of f i).answer ≡ Answer.refuted → Derivation (f.decode i.query) (lines_in (derivation_call_of f i).lent)
  pub derivation_walked : (i : Input) → (derivation_call_of f i).answer ≡ Answer.refuted → our_walk i.order (f.decode i.query) ≡ refutation (lines_in (derivation_call_of f i).lent)
  -- they are written as 01 says, with zeros after them, and are no more than 16,000 and no more than the buffer holds
  pub derivation_formed : (i : Input) → (derivation_call_of f i).answer ≡ Answer.refuted → (derivation_call_of f i).lent ≡ padded i.room (derivation_bytes (lines_in (derivation_call_of f i).lent))
  pub derivation_counted : (i : Input) → (derivation_call_of f i).answer ≡ Answer.refuted → Fits i.room (lines_in (derivation_call_of f i).lent)

-- a verdict is right: "satisfiable" exactly when some finite heap meets every literal, "refuted" exactly when none of any size does
pub record Right (q : Query) (v : Verdict) : Type 0 where
  pub satisfiable_exactly : (v ≡ Verdict.satisfiable) ↔ Satisfiable q
  pub refuted_exactly : (v ≡ Verdict.refuted) ↔ (Satisfiable q → ⊥)

-- our verdict as the answer of a call
abbrev pub answer_of : Verdict → Answer
answer_of Verdict.satisfiable = Answer.satisfiable
answer_of Verdict.refuted = Answer.refuted

-- DEMAND 3. "For every accepted query, every order list that passes check 1 and every list of picks that a hand may make from the
-- start, vain ones included: if .. the hand's is finished after its list, both have one verdict. It is "satisfiable" exactly when ..,
-- and "refuted" exactly when ..; a walk that is finished while the other is not has that verdict too. A verdict call that is not refused
-- answers our walk's verdict." Our walk is always finished (02, R-5: "Agreement of walks drops its clause on broken-off ones").
pub record Demand3 (f : CallForm) : Type 0 where
  pub one_verdict : (query order : List ℕ) (picks : List Pick) (w : Verdict) → accepts_by f query ≡ true → is_order order ≡ true → hand_verdict (f.decode query) (hand_row (f.decode query) picks) ≡ some w → our_verdict (our_walk order (f.decode query)) ≡ w
  pub ours_right : (query order : List ℕ) → accepts_by f query ≡ true → is_order order ≡ true → Right (f.decode query) (our_verdict (our_walk order (f.decode query)))
  pub hand_right : (query : List ℕ) (picks : List Pick) (w : Verdict) → accepts_by f query ≡ true → hand_verdict (f.decode query) (hand_row (f.decode query) picks) ≡ some w → Right (f.decode query) w
  -- and a hand can move: some list of picks leaves its walk finished with our verdict
  pub hand_follows : (query order : List ℕ) → accepts_by f query ≡ true → is_order order ≡ true → (picks : List Pick) × (hand_verdict (f.decode query) (hand_row (f.decode query) picks) ≡ some (our_verdict (our_walk order (f.decode query))))
  pub call_answers : (i : Input) → NotRefused (verdict_call_of f i).answer → (verdict_call_of f i).answer ≡ answer_of (our_verdict (our_walk i.order (f.decode i.query)))
