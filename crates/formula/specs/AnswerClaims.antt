-- What is claimed of the formula call's answer, by what formulas mean in heaps (02, R-7).
use Rattle.std.specs.Prelude.{ℕ, ◌≤◌, ◌<◌, ◌≡◌, ◌↔◌, true, length, replicate}
use mathlib.Core.List.{List, Memᴰ}
use Rattle.std.proofs.Math.Option.{some}
use Rattle.logic.specs.Search.{at}
use Rattle.logic.specs.Query.{Query, decode, term_count}
use Rattle.logic.specs.Heap.{Heap, Meets, Satisfiable, value}
use Rattle.logic.specs.Shown.{heap_in, node_in, well_formed}
use Rattle.logic.specs.Demands.{NotRefused}
use Rattle.formula.specs.Grammar.{Formula, literal}
use Rattle.formula.specs.Expansion.{Name, Conjunction, expand}
use Rattle.formula.specs.Meaning.{Holds, bare, MeetsFormula, restricted}
use Rattle.formula.specs.Call.{Input, Outcome, refuted, conjunction, verdict_on, formula_call}
use Rattle.formula.specs.ReadingClaims.{Taken}

-- every literal that a conjunction names holds
abbrev pub HoldsAll : Heap → Query → Conjunction → Type 0
HoldsAll h q c = (x : Name) → Memᴰ x c → Holds h q (literal x.letter x.place)

-- What conjunctions are to a formula whose literals are all in the query, in every heap:
pub record ConjunctionClaims (q : Query) (f : Formula) : Type 0 where
  -- a formula holds exactly if one of its conjunctions does
  pub holds_exactly : (h : Heap) → Holds h q f ↔ ((c : Conjunction) × Memᴰ c (expand f) × HoldsAll h q c)
  -- "Literals not named do not count.": a heap for the query's terms meets a conjunction's query exactly if the literals named hold
  pub restricted_exactly : (h : Heap) (c : Conjunction) → Memᴰ c (expand f) → Meets h (restricted q c) ↔ (Meets h (bare q) × HoldsAll h q c)

-- "The formula is satisfiable exactly if a finite heap meets it"
abbrev pub SatisfiableFormula : Query → Formula → Type 0
SatisfiableFormula q f = (h : Heap) × MeetsFormula h q f

-- "the first satisfiable conjunction's number (from 1)"
pub record FirstSatisfiable (q : Query) (f : Formula) (k : ℕ) : Type 0 where
  pub first : Conjunction
  pub numbered : at (expand f) k ≡ some first
  pub satisfiable : Satisfiable (restricted q first)
  pub none_before : (j : ℕ) (c : Conjunction) → j < k → at (expand f) j ≡ some c → Satisfiable (restricted q c) → ⊥

-- the report shows a heap that meets the formula, and each term's node in it is the one listed for the term
pub record ShowsFormula (bytes : List ℕ) (q : Query) (f : Formula) : Type 0 where
  pub meets : MeetsFormula (heap_in q.links bytes) q f
  pub listed : (t : ℕ) → 1 ≤ t → t ≤ term_count q → value (heap_in q.links bytes) q.entries t ≡ node_in bytes t

-- What an outcome of the call on i, where f is the text's formula, has to be:
pub record AnswerClaims (i : Input) (f : Formula) (o : Outcome) : Type 0 where
  -- "the answer is the first satisfiable conjunction's number (from 1) .., or "refuted""
  pub first_exactly : (k : ℕ) → (o.answer ≡ conjunction k) ↔ FirstSatisfiable (decode i.query) f k
  -- "The formula is satisfiable exactly if a finite heap meets it"
  pub some_exactly : ((k : ℕ) × (o.answer ≡ conjunction k)) ↔ SatisfiableFormula (decode i.query) f
  pub refuted_exactly : (o.answer ≡ refuted) ↔ (SatisfiableFormula (decode i.query) f → ⊥)
  -- ".. and its heap"
  pub heap_shown : (k : ℕ) → o.answer ≡ conjunction k → ShowsFormula o.lent (decode i.query) f
  -- the report is well formed, and every byte is as the verdict call leaves it on that conjunction's query
  pub report_formed : (k : ℕ) → o.answer ≡ conjunction k → well_formed 1 o.lent ≡ true
  pub report_is : (k : ℕ) (c : Conjunction) → o.answer ≡ conjunction k → at (expand f) k ≡ some c → o.lent ≡ (verdict_on i c).lent
  -- "With "refuted" the whole heap report is zero." (01)
  pub refuted_blank : o.answer ≡ refuted → o.lent ≡ replicate i.room 0

-- For every order list, query, text and room, bytes of any number: `Taken i f` says that nothing is refused and f is the text's formula.
pub record FormulaClaims (i : Input) : Type 0 where
  pub conjunctions : (f : Formula) → Taken i f → ConjunctionClaims (decode i.query) f
  pub answers : (f : Formula) → Taken i f → AnswerClaims i f (formula_call i)
  -- a number is that of one of at most 64 conjunctions
  pub answer_numbered : (k : ℕ) → (formula_call i).answer ≡ conjunction k → (1 ≤ k) × (k ≤ 64)
  -- the verdict call has nothing to refuse of a conjunction's query
  pub conjunction_decided : (f : Formula) → Taken i f → (c : Conjunction) → NotRefused (verdict_on i c).answer
  -- the call writes as many bytes as are lent, whatever it answers
  pub lent_whole : length (formula_call i).lent ≡ i.room

-- The order list chooses the heap that is shown, and never the answer: two calls on one query and one text that are not refused answer alike.
abbrev pub OneAnswer : Type 0
OneAnswer = (i j : Input) (f g : Formula) → i.query ≡ j.query → i.text ≡ j.text → Taken i f → Taken j g → (formula_call i).answer ≡ (formula_call j).answer
