-- The three demands, of what the library's calls answer and write. `order`, `query` and `before` are what a call is given, `r` is what
-- it answers and `bytes` what it leaves in the lent output: its contract is the hypothesis `does`. `f` is the form of queries that it takes.
-- At the end: each of the four calls, with no hypothesis but its own contract.
use Prim.Native.Nat.{ℕ, ◌≤◌}
use native.Mathlib.Omega.{arith}
use mathlib.Core.Path.{◌≡◌, refl, sym, ap, ◌∙◌, subst}
use mathlib.Core.Logic.{◌↔◌}
use mathlib.Core.Bool.{true}
use mathlib.Core.List.{List, [], ◌∷◌, ◌++◌, Memᴰ}
use mathlib.Core.Option.{some}
use lib.ListN.{length, replicate}
use Rattle.logic.specs.Heap.{Satisfiable}
use Rattle.logic.specs.Facts.{Line}
use Rattle.logic.specs.Walk.{refutation, Verdict, Pick, our_walk, our_verdict, hand_row, hand_verdict}
use Rattle.logic.specs.Derivation.{Derivation, derivation_bytes, lines_in}
use Rattle.logic.specs.Shown.{well_formed}
use Rattle.logic.specs.Calls.{Input, Check, CallForm, one_link_form, Outcome, verdict_checks_of, derivation_checks_of, padded, verdict_call_of, verdict_call, derivation_call_of, derivation_call}
use Rattle.logic.specs.Calls as calls
use Rattle.logic.specs.Demands.{NotRefused, NoneStands, FirstStands, numbers, Refusals, Fits, Exceeds, Shows, answer_of}
use Rattle.logic.specs.ThreeLinks.{three_link_form}
use Rattle.theory.proofs.Calls.CallLaws.{FormLaws}
use Rattle.theory.proofs.Calls.Refusals.{one_link_laws}
use Rattle.theory.proofs.Calls.Demands.{demand1_of, demand2_of, demand3_of, call_passed}
use Rattle.theory.proofs.Calls.ThreeLinks.{three_link_laws}
use Rattle.prover.specs.Promise.{meaning, input_of, Does}
use Rattle.prover.specs.declared.Answer.{Answer}
use Rattle.prover.specs.declared.Answer.TheVariants as answer

-- the cases of the enum are told apart by what they mean
pub meaning_one : (r b : Answer) → meaning r ≡ meaning b → r ≡ b
meaning_one answer.Satisfiable answer.Satisfiable e = refl
meaning_one answer.Satisfiable answer.Refuted e = let z : ◌≡◌ {A = ℕ} 0 1 = cc in absurd (omega arith)
meaning_one answer.Satisfiable (answer.Refused k p) e = let z : ◌≡◌ {A = ℕ} 0 1 = cc in absurd (omega arith)
meaning_one answer.Refuted answer.Satisfiable e = let z : ◌≡◌ {A = ℕ} 0 1 = cc in absurd (omega arith)
meaning_one answer.Refuted answer.Refuted e = refl
meaning_one answer.Refuted (answer.Refused k p) e = let z : ◌≡◌ {A = ℕ} 0 1 = cc in absurd (omega arith)
meaning_one (answer.Refused k p) answer.Satisfiable e = let z : ◌≡◌ {A = ℕ} 0 1 = cc in absurd (omega arith)
meaning_one (answer.Refused k p) answer.Refuted e = let z : ◌≡◌ {A = ℕ} 0 1 = cc in absurd (omega arith)
meaning_one (answer.Refused k p) (answer.Refused k' p') e = let a : k ≡ k' = cc in let b : p ≡ p' = cc in cc

-- no refusal
abbrev pub Unrefused : Answer → Type 0
Unrefused r = (k place : ℕ) → r ≡ answer.Refused k place → ⊥

-- an answer of the enum is the definition's, and the other way round
module _ (o : Outcome) (r : Answer) (bytes : List ℕ) (does : Does o r bytes) where
  same : (b : Answer) → r ≡ b → o.answer ≡ meaning b
  same b e = sym does.answers ∙ ap meaning e

  back : (b : Answer) → o.answer ≡ meaning b → r ≡ b
  back b e = meaning_one r b (does.answers ∙ e)

  not_refused : Unrefused r → NotRefused o.answer
  not_refused h k place e = h k place (back (answer.Refused k place) e)

  exactly : (b : Answer) (P : Type 0) → (o.answer ≡ meaning b) ↔ P → (r ≡ b) ↔ P
  exactly b P h = (λ e. h.0 (same b e), λ p. back b (h.1 p))

-- DEMAND 1, of either call: each refusal under its own stated condition only, the first in checking order; all of the lent output is
-- then zero, and the call writes just what it was lent
pub record Refuses (cs : List Check) (longest : ℕ) (i : Input) (r : Answer) (bytes : List ℕ) : Type 0 where
  pub first_exactly : (k place : ℕ) → Memᴰ k (numbers cs) → (r ≡ answer.Refused k place) ↔ FirstStands cs i k place
  pub refusal_made : (c : Check) (before behind : List Check) (place : ℕ) → cs ≡ before ++ (c ∷ behind) → c.place i ≡ some place → (k : ℕ) × (p : ℕ)
      × (r ≡ answer.Refused k p) × FirstStands (before ++ (c ∷ [])) i k p
  pub never_ten : (place : ℕ) → r ≡ answer.Refused 10 place → ⊥
  pub refusal_numbered : (k place : ℕ) → r ≡ answer.Refused k place → Memᴰ k (numbers cs ++ (11 ∷ 12 ∷ []))
  pub refusal_placed : (k place : ℕ) → r ≡ answer.Refused k place → (place ≤ length i.query) × (place ≤ longest)
  pub refusal_blank : (k place : ℕ) → r ≡ answer.Refused k place → bytes ≡ replicate i.room 0
  pub lent_whole : length bytes ≡ i.room

refuses : (cs : List Check) (longest : ℕ) (outcome : Input → Outcome) → Refusals cs longest outcome → (i : Input) (r : Answer) (bytes : List ℕ) →
    Does (outcome i) r bytes → Refuses cs longest i r bytes
refuses cs longest outcome law i r bytes does =
    record {
      first_exactly = λ k place m. exactly (outcome i) r bytes does (answer.Refused k place) (FirstStands cs i k place) (law.first_exactly i k place m);
      refusal_made = λ c before behind place o s. let (k, p, e, f) = law.refusal_made i c before behind place o s in (k, p, back (outcome i) r bytes does (answer.Refused k p) e, f);
      never_ten = λ place e. law.never_ten i place (same (outcome i) r bytes does (answer.Refused 10 place) e);
      refusal_numbered = λ k place e. law.refusal_numbered i k place (same (outcome i) r bytes does (answer.Refused k place) e);
      refusal_placed = λ k place e. law.refusal_placed i k place (same (outcome i) r bytes does (answer.Refused k place) e);
      refusal_blank = λ k place e. does.leaves ∙ law.refusal_blank i k place (same (outcome i) r bytes does (answer.Refused k place) e);
      lent_whole = ap length does.leaves ∙ law.lent_whole i;
    }

-- The verdict call
pub record VerdictDemands (f : CallForm) (order query before bytes : List ℕ) (r : Answer) : Type 0 where
  -- DEMAND 1; there is no refusal but by a check, and a report that shows a heap is well formed
  pub verdict_refuses : Refuses (verdict_checks_of f) f.longest (input_of order query before) r bytes
  pub verdict_numbered : (k place : ℕ) → r ≡ answer.Refused k place → Memᴰ k (numbers (verdict_checks_of f))
  pub report_formed : r ≡ answer.Satisfiable → well_formed f.links bytes ≡ true
  -- DEMAND 2: "satisfiable" exactly when some finite heap meets every literal, and the heap shown is one; "refuted" exactly when none
  pub satisfiable_exactly : Unrefused r → (r ≡ answer.Satisfiable) ↔ Satisfiable (f.decode query)
  pub heap_shown : r ≡ answer.Satisfiable → Shows bytes (f.decode query)
  pub refuted_exactly : Unrefused r → (r ≡ answer.Refuted) ↔ (Satisfiable (f.decode query) → ⊥)
  -- DEMAND 3: the call answers our walk's verdict, which is that of every hand's walk that is finished; and some hand's walk is
  pub one_verdict : Unrefused r → meaning r ≡ answer_of (our_verdict (our_walk order (f.decode query)))
  pub hand_agrees : Unrefused r → (picks : List Pick) (w : Verdict) → hand_verdict (f.decode query) (hand_row (f.decode query) picks) ≡ some w → meaning r ≡ answer_of w
  pub hand_follows : Unrefused r → (picks : List Pick) × (w : Verdict) × (hand_verdict (f.decode query) (hand_row (f.decode query) picks) ≡ some w) × (meaning r ≡ answer_of w)

module _ (f : CallForm) (laws : FormLaws f) (order query before bytes : List ℕ) (r : Answer) (does : Does (verdict_call_of f (input_of order query before)) r bytes) where
  abbrev i : Input
  i = input_of order query before

  unrefused : Unrefused r → NotRefused (verdict_call_of f i).answer
  unrefused = not_refused _ r bytes does

  pub report_formed : r ≡ answer.Satisfiable → well_formed f.links bytes ≡ true
  report_formed e = ap (well_formed f.links) does.leaves ∙ (demand1_of f laws).report_formed i (same _ r bytes does answer.Satisfiable e)

  one_verdict : Unrefused r → meaning r ≡ answer_of (our_verdict (our_walk order (f.decode query)))
  one_verdict h = does.answers ∙ (demand3_of f laws).call_answers i (unrefused h)

  pub verdict_demands_of : VerdictDemands f order query before bytes r
  verdict_demands_of =
      record {
        verdict_refuses = refuses (verdict_checks_of f) f.longest (verdict_call_of f) (demand1_of f laws).verdict_refusals i r bytes does;
        verdict_numbered = λ k place e. (demand1_of f laws).verdict_numbered i k place (same _ r bytes does (answer.Refused k place) e);
        report_formed = report_formed;
        satisfiable_exactly = λ h. exactly _ r bytes does answer.Satisfiable (Satisfiable (f.decode query)) ((demand2_of f laws).satisfiable_exactly i (unrefused h));
        heap_shown = λ e. subst (λ (b : List ℕ). Shows b (f.decode query)) (sym does.leaves) ((demand2_of f laws).heap_shown i (same _ r bytes does answer.Satisfiable e));
        refuted_exactly = λ h. exactly _ r bytes does answer.Refuted (Satisfiable (f.decode query) → ⊥) ((demand2_of f laws).refuted_exactly i (unrefused h));
        one_verdict = one_verdict;
        hand_agrees = λ h picks w e.
            let p = call_passed f laws i (unrefused h) in
            one_verdict h ∙ ap answer_of ((demand3_of f laws).one_verdict query order picks w p.query p.order e);
        hand_follows = λ h.
            let p = call_passed f laws i (unrefused h) in
            let (picks, e) = (demand3_of f laws).hand_follows query order p.query p.order in
            (picks, our_verdict (our_walk order (f.decode query)), e, one_verdict h);
      }

  pub report_whole : length bytes ≡ length before
  report_whole = verdict_demands_of.verdict_refuses.lent_whole

-- The derivation call
pub record DerivationDemands (f : CallForm) (order query before bytes : List ℕ) (r : Answer) : Type 0 where
  -- DEMAND 1; 11 exactly where some finite heap meets the query, 12 where none does and the lines are too many, else "refuted"
  pub derivation_refuses : Refuses (derivation_checks_of f) f.longest (input_of order query before) r bytes
  pub heap_exactly : (place : ℕ) → (r ≡ answer.Refused 11 place) ↔ ((place ≡ 0) × NoneStands (derivation_checks_of f) (input_of order query before) × Satisfiable (f.decode query))
  pub excess_exactly : (place : ℕ) → (r ≡ answer.Refused 12 place) ↔
      ((place ≡ 0) × NoneStands (derivation_checks_of f) (input_of order query before) × (Satisfiable (f.decode query) → ⊥)
      × ((ls : List Line) × (our_walk order (f.decode query) ≡ refutation ls) × Exceeds (length before) ls))
  pub lines_exactly : (r ≡ answer.Refuted) ↔
      (NoneStands (derivation_checks_of f) (input_of order query before) × ((ls : List Line) × (our_walk order (f.decode query) ≡ refutation ls) × Fits (length before) ls))
  pub never_satisfiable : r ≡ answer.Satisfiable → ⊥
  -- DEMAND 2's last sentence: the lines in the bytes left follow the rules, are those of our walk, and are written as 01 says
  pub derivation_follows : r ≡ answer.Refuted → Derivation (f.decode query) (lines_in bytes)
  pub derivation_walked : r ≡ answer.Refuted → our_walk order (f.decode query) ≡ refutation (lines_in bytes)
  pub derivation_formed : r ≡ answer.Refuted → bytes ≡ padded (length before) (derivation_bytes (lines_in bytes))
  pub derivation_counted : r ≡ answer.Refuted → Fits (length before) (lines_in bytes)

module _ (f : CallForm) (laws : FormLaws f) (order query before bytes : List ℕ) (r : Answer) (does : Does (derivation_call_of f (input_of order query before)) r bytes) where
  abbrev j : Input
  j = input_of order query before

  -- what holds of the bytes that the definition leaves where it says "refuted" holds of the bytes left
  of_lines : (P : List ℕ → Type 0) → ((derivation_call_of f j).answer ≡ calls.refuted → P (derivation_call_of f j).lent) → r ≡ answer.Refuted → P bytes
  of_lines P h e = subst P (sym does.leaves) (h (same _ r bytes does answer.Refuted e))

  pub derivation_demands_of : DerivationDemands f order query before bytes r
  derivation_demands_of =
      record {
        derivation_refuses = refuses (derivation_checks_of f) f.longest (derivation_call_of f) (demand1_of f laws).derivation_refusals j r bytes does;
        heap_exactly = λ place. exactly _ r bytes does (answer.Refused 11 place) _ ((demand1_of f laws).heap_exactly j place);
        excess_exactly = λ place. exactly _ r bytes does (answer.Refused 12 place) _ ((demand1_of f laws).excess_exactly j place);
        lines_exactly = exactly _ r bytes does answer.Refuted _ ((demand1_of f laws).lines_exactly j);
        never_satisfiable = λ e. (demand1_of f laws).never_satisfiable j (same _ r bytes does answer.Satisfiable e);
        derivation_follows = of_lines (λ b. Derivation (f.decode query) (lines_in b)) ((demand2_of f laws).derivation_follows j);
        derivation_walked = of_lines (λ b. our_walk order (f.decode query) ≡ refutation (lines_in b)) ((demand2_of f laws).derivation_walked j);
        derivation_formed = of_lines (λ b. b ≡ padded (length before) (derivation_bytes (lines_in b))) ((demand2_of f laws).derivation_formed j);
        derivation_counted = of_lines (λ b. Fits (length before) (lines_in b)) ((demand2_of f laws).derivation_counted j);
      }

-- Both calls, with one order list and one query: one verdict
pub record OneVerdict (f : CallForm) (before : List ℕ) (r r' : Answer) : Type 0 where
  pub both_one_verdict : Unrefused r → Unrefused r' → r ≡ r'
  pub both_one_heap : f.room ≤ length before → (r ≡ answer.Satisfiable) ↔ (r' ≡ answer.Refused 11 0)

module _ (f : CallForm) (laws : FormLaws f) (order query before before' bytes bytes' : List ℕ) (r r' : Answer)
    (does : Does (verdict_call_of f (input_of order query before)) r bytes) (does' : Does (derivation_call_of f (input_of order query before')) r' bytes') where
  pub one_verdict_of : OneVerdict f before r r'
  one_verdict_of =
      record {
        both_one_verdict = λ h h'.
            meaning_one r r' (does.answers ∙ (demand1_of f laws).one_verdict (input_of order query before) (input_of order query before') (refl, refl)
            (not_refused _ r bytes does h) (not_refused _ r' bytes' does' h') ∙ sym does'.answers);
        both_one_heap = λ l.
            let h = (demand1_of f laws).one_heap (input_of order query before) (input_of order query before') (refl, refl) l in (
              λ e. back _ r' bytes' does' (answer.Refused 11 0) (h.0 (same _ r bytes does answer.Satisfiable e)),
              λ e. back _ r bytes does answer.Satisfiable (h.1 (same _ r' bytes' does' (answer.Refused 11 0) e)),
            );
      }

-- The calls, each of what its contract (src/lib.rt) says of what it answers and leaves: `verdict` and `derivation`, of queries in the form of 01
module _ (order query before bytes : List ℕ) (r : Answer) where
  pub verdict_demands : Does (verdict_call (input_of order query before)) r bytes → VerdictDemands one_link_form order query before bytes r
  verdict_demands = verdict_demands_of one_link_form one_link_laws order query before bytes r

  pub derivation_demands : Does (derivation_call (input_of order query before)) r bytes → DerivationDemands one_link_form order query before bytes r
  derivation_demands = derivation_demands_of one_link_form one_link_laws order query before bytes r

  -- and `links_verdict` and `links_derivation`, of queries with three links
  pub links_verdict_demands : Does (verdict_call_of three_link_form (input_of order query before)) r bytes → VerdictDemands three_link_form order query before bytes r
  links_verdict_demands = verdict_demands_of three_link_form three_link_laws order query before bytes r

  pub links_derivation_demands : Does (derivation_call_of three_link_form (input_of order query before)) r bytes → DerivationDemands three_link_form order query before bytes r
  links_derivation_demands = derivation_demands_of three_link_form three_link_laws order query before bytes r

  -- both calls of a form
  module _ (before' bytes' : List ℕ) (r' : Answer) where
    pub calls_one_verdict : Does (verdict_call (input_of order query before)) r bytes → Does (derivation_call (input_of order query before')) r' bytes' → OneVerdict one_link_form before r r'
    calls_one_verdict = one_verdict_of one_link_form one_link_laws order query before before' bytes bytes' r r'

    pub links-calls_one_verdict : Does (verdict_call_of three_link_form (input_of order query before)) r bytes →
        Does (derivation_call_of three_link_form (input_of order query before')) r' bytes' → OneVerdict three_link_form before r r'
    links-calls_one_verdict = one_verdict_of three_link_form three_link_laws order query before before' bytes bytes' r r'
