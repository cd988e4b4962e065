-- What is claimed of the texts that are read and of those that are refused, as statements about the definitions (02, R-7).
use Rattle.std.specs.Prelude.{ℕ, ◌-◌, ◌≤◌, ◌<◌, ◌≡◌, ◌⊎◌, ◌↔◌, Bool, length, replicate}
use mathlib.Core.List.{List, [], Memᴰ}
use Rattle.std.proofs.Math.Option.{none}
use Rattle.logic.specs.Query.{decode}
use Rattle.logic.specs.Calls.{verdict_checks, refusal_of}
use Rattle.logic.specs.Calls as calls
use Rattle.logic.specs.Demands.{FirstStands, numbers}
use Rattle.formula.specs.Grammar.{Letter, Formula, disjunction, Reads, Within}
use Rattle.formula.specs.Expansion.{expand}
use Rattle.formula.specs.Meaning.{present, AllPresent}
use Rattle.formula.specs.Places.{TooDeep, FirstFault}
use Rattle.formula.specs.Reader.{read_text}
use Rattle.formula.specs.Reader as reader
use Rattle.formula.specs.Call.{Input, refused, first_of, formula_call}

-- a text of the grammar that names literals that are there, with no 33rd parenthesis open at once
pub record Accepted (has : Letter → ℕ → Bool) (text : List ℕ) (f : Formula) : Type 0 where
  pub reads : Reads disjunction text f
  pub all_present : AllPresent has f
  pub not_too_deep : (p : ℕ) → TooDeep 32 text p → ⊥

-- the readers refuse: they hand back the bytes from the place on
abbrev pub RefusedAt : (Letter → ℕ → Bool) → List ℕ → ℕ → ℕ → Type 0
RefusedAt has text k p = (behind : List ℕ) × (read_text has 32 text ≡ reader.refused k behind) × (length text - length behind ≡ p)

-- For every text, bytes of any number and length, and whichever literals are there:
pub record ReadingClaims (has : Letter → ℕ → Bool) (text : List ℕ) : Type 0 where
  -- "accepted are exactly its texts within the limits below", with nothing behind them
  pub accepted_exactly : (f : Formula) → (read_text has 32 text ≡ reader.done f []) ↔ Accepted has text f
  pub nothing_behind : (f : Formula) (rest : List ℕ) → read_text has 32 text ≡ reader.done f rest → rest ≡ []
  pub one_formula : (f g : Formula) → Accepted has text f → Accepted has text g → f ≡ g
  -- "to a depth of 32": these are the texts that are read with no more than 32 parentheses round any part
  pub depth_exactly : (f : Formula) → (Reads disjunction text f × ((p : ℕ) → TooDeep 32 text p → ⊥)) ↔ ((x : Reads disjunction text f) × Within 32 x)
  -- "17 outside the grammar .. or naming an absent literal (its letter), and 18 too deep .., lowest place first, 17 on a tie"
  pub refused_exactly : (k p : ℕ) → RefusedAt has text k p ↔ FirstFault has text k p
  pub refused_as : (k p : ℕ) → FirstFault has text k p → ((k ≡ 17) ⊎ (k ≡ 18)) × (p ≤ length text)
  -- every text is accepted or has a first fault, one and no other, and none is both
  pub accepted_or_refused : ((f : Formula) × Accepted has text f) ⊎ ((k : ℕ) × (p : ℕ) × FirstFault has text k p)
  pub not_both : (f : Formula) (k p : ℕ) → Accepted has text f → FirstFault has text k p → ⊥
  pub one_fault : (j k p q : ℕ) → FirstFault has text j p → FirstFault has text k q → (j ≡ k) × (p ≡ q)

-- what the checks of the verdict call are given, and the literals that are there
abbrev pub checked : Input → calls.Input
checked i = record { order = i.order; query = i.query; room = i.room }

abbrev pub present_in : Input → Letter → ℕ → Bool
present_in i = present (decode i.query)

-- "after 9": none of the checks of the verdict call stands, of which 9 is the last
abbrev pub Passed : Input → Type 0
Passed i = refusal_of verdict_checks (checked i) ≡ none

-- a text that is refused nothing: "within the limits"
pub record Taken (i : Input) (f : Formula) : Type 0 where
  pub passed : Passed i
  pub short : length i.text ≤ 512
  pub accepted : Accepted (present_in i) i.text f
  pub few : length (expand f) ≤ 64

-- For every order list, query, text and room, bytes of any number:
pub record RefusalClaims (i : Input) : Type 0 where
  -- the verdict call's checks as ever, before the text is looked at
  pub checks_first : (k p : ℕ) → Memᴰ k (numbers verdict_checks) → ((formula_call i).answer ≡ refused k p) ↔ FirstStands verdict_checks (checked i) k p
  -- "after 9, 17 text too long (place 512); then 17 outside the grammar .. or naming an absent literal .."
  pub refused_17 : (p : ℕ) → ((formula_call i).answer ≡ refused 17 p) ↔ (Passed i × (((512 < length i.text) × (p ≡ 512)) ⊎ ((length i.text ≤ 512) × FirstFault (present_in i) i.text 17 p)))
  -- ".. and 18 too deep (the 33rd parenthesis open at once)"
  pub refused_18 : (p : ℕ) → ((formula_call i).answer ≡ refused 18 p) ↔ (Passed i × (length i.text ≤ 512) × FirstFault (present_in i) i.text 18 p)
  -- "then 19 more than 64 conjunctions"
  pub refused_19 : (p : ℕ) → ((formula_call i).answer ≡ refused 19 p) ↔ (Passed i × (length i.text ≤ 512) × ((f : Formula) × Accepted (present_in i) i.text f × (64 < length (expand f))) × (p ≡ 0))
  pub refusal_numbered : (k p : ℕ) → (formula_call i).answer ≡ refused k p → Memᴰ k (numbers verdict_checks) ⊎ ((17 ≤ k) × (k ≤ 19))
  -- "accepted are exactly its texts within the limits": what is not refused, and what is then answered
  pub taken_exactly : ((k p : ℕ) → (formula_call i).answer ≡ refused k p → ⊥) ↔ ((f : Formula) × Taken i f)
  pub taken_answer : (f : Formula) → Taken i f → formula_call i ≡ first_of i 1 (expand f)
  -- a refusal leaves zero in all that was lent
  pub refusal_blank : (k p : ℕ) → (formula_call i).answer ≡ refused k p → (formula_call i).lent ≡ replicate i.room 0
