-- The first conjunction whose verdict call says "satisfiable" is the first that a heap meets. Assumes nothing.
use Prim.Native.Nat.{ℕ, zero, suc, ◌+◌, ◌≤◌, ◌<◌}
use native.Mathlib.Omega.{arith}
use mathlib.Core.Path.{◌≡◌, refl, sym, ap, ◌∙◌, subst}
use mathlib.Core.Logic.{⊎_elim}
use mathlib.Core.Bool.{Bool, true, false, cond, false≢true}
use mathlib.Core.List.Memᴰ
use mathlib.Core.List.{List, [], ◌∷◌, Memᴰ}
use mathlib.Core.Option.{none, some}
use Rattle.logic.specs.Search.{at}
use Rattle.logic.specs.Query.{Query, decode, term_count}
use Rattle.logic.specs.Heap.{Heap, Meets, Satisfiable, value}
use Rattle.logic.specs.Shown.{heap_in, node_in, well_formed}
use Rattle.logic.specs.Calls.{Check, order_check, verdict_checks, refusal_of, accepts, verdict_call, derivation_checks_of}
use Rattle.logic.specs.Calls as calls
use Rattle.logic.specs.Demands.{NotRefused, NoneStands}
use Rattle.theory.proofs.Basics.Search.{none-some, true-false, bool_cases}
use Rattle.theory.proofs.Basics.Compare.{le_cases, cond-true, cond-false}
use Rattle.theory.proofs.Calls.CheckingOrder.{first_stands}
use Rattle.theory.proofs.Calls.Refusals.{one_link_laws}
use Rattle.theory.proofs.Calls.CallLaws.{refusal_of-none, accepts_checks, derivation_known, verdict_clear, verdict_passed}
use Rattle.theory.proofs.Calls.Demands.{demand1, demand2}
use Rattle.encoding.proofs.Encoded.{Encodable, decoded}
use Rattle.encoding.proofs.Decoded.{accepted_encodable, part_encodable, encoded_accepts, at_own}
use Rattle.formula.specs.Grammar.{Formula}
use Rattle.formula.specs.Expansion.{Conjunction, expand}
use Rattle.formula.specs.Meaning.{MeetsFormula, present, AllPresent, restricted}
use Rattle.formula.specs.Call.{Input, Outcome, Answer, refused, refuted, conjunction, blank, query_of, verdict_on, is_satisfiable, first_of}
use Rattle.formula.specs.AnswerClaims.{SatisfiableFormula, FirstSatisfiable, ShowsFormula, AnswerClaims}
use Rattle.formula.proofs.Conjunctions.{holds_some, some_holds, all_named, restricted_part, meets_bare, meets_named, named_meets}

-- Answers of different kinds differ.

conjunction-refuted : {k : ℕ} → conjunction k ≡ refuted → ⊥
conjunction-refuted e = let z : ◌≡◌ {A = ℕ} 0 1 = cc in omega arith

conjunction_one : {j k : ℕ} → conjunction j ≡ conjunction k → j ≡ k
conjunction_one e = cc

-- the test of a verdict
says-satisfiable : (a : calls.Answer) → is_satisfiable a ≡ true → a ≡ calls.satisfiable
unfolding is_satisfiable
says-satisfiable calls.satisfiable h = refl
says-satisfiable calls.refuted h = absurd (false≢true h)
says-satisfiable (calls.refused k place) h = absurd (false≢true h)

satisfiable-says : (a : calls.Answer) → a ≡ calls.satisfiable → is_satisfiable a ≡ true
unfolding is_satisfiable
satisfiable-says a e = rw e refl

-- The search along the conjunctions

module _ (i : Input) where
  abbrev passes : Conjunction → Bool
  passes c = is_satisfiable (verdict_on i c).answer

  -- the first that passes is at place k, counted from 0, or none does
  data Search (n : ℕ) (cs : List Conjunction) (o : Outcome) : Type 0 where
    found : (k : ℕ) (c : Conjunction) → at cs (suc k) ≡ some c → passes c ≡ true →
        ((j : ℕ) (d : Conjunction) → j < k → at cs (suc j) ≡ some d → passes d ≡ false) →
        o ≡ record { answer = conjunction (n + k); lent = (verdict_on i c).lent } → Search n cs o
    absent : ((c : Conjunction) → Memᴰ c cs → passes c ≡ false) → o ≡ blank i.room refuted → Search n cs o

  search : (n : ℕ) (cs : List Conjunction) → Search n cs (first_of i n cs)
  unfolding first_of at
  search n [] = absent (λ c m. absurd (Memᴰ.not-nil m)) refl
  search n (c ∷ cs) = ⊎_elim here (λ e. later e (search (suc n) cs)) (bool_cases (passes c))
    where
      here : passes c ≡ true → Search n (c ∷ cs) (cond (passes c) (record { answer = conjunction n; lent = (verdict_on i c).lent }) (first_of i (suc n) cs))
      here e =
          found 0 c refl e (λ j d l. absurd (omega arith))
          (cond-true _ _ e ∙ ap (λ (m : ℕ). record { answer = conjunction m; lent = (verdict_on i c).lent }) (let z : n ≡ n + 0 = omega arith in z))

      before : (k : ℕ) → passes c ≡ false → ((j : ℕ) (d : Conjunction) → j < k → at cs (suc j) ≡ some d → passes d ≡ false) →
          (j : ℕ) (d : Conjunction) → j < suc k → at (c ∷ cs) (suc j) ≡ some d → passes d ≡ false
      before k e b zero d l a = let q : c ≡ d = cc in ap passes (sym q) ∙ e
      before k e b (suc j) d l a = b j d (omega arith) a

      later : passes c ≡ false → Search (suc n) cs (first_of i (suc n) cs) → Search n (c ∷ cs) (cond (passes c) (record { answer = conjunction n; lent = (verdict_on i c).lent }) (first_of i (suc n) cs))
      later e (found k d a p b s) =
          found (suc k) d a p (before k e b)
          (cond-false _ _ e ∙ s ∙ ap (λ (m : ℕ). record { answer = conjunction m; lent = (verdict_on i d).lent }) (let z : suc n + k ≡ n + suc k = omega arith in z))
      later e (absent b s) = absent (λ d m. ⊎_elim (λ (q : d ≡ c). ap passes q ∙ e) (b d) (Memᴰ.cases_cons m)) (cond-false _ _ e ∙ s)

  module _ (passed : refusal_of verdict_checks (record { order = i.order; query = i.query; room = i.room }) ≡ none) where
    abbrev query : Query
    query = decode i.query

    abbrev given : calls.Input
    given = record { order = i.order; query = i.query; room = i.room }

    abbrev asked : Conjunction → calls.Input
    asked c = record { order = i.order; query = query_of i c; room = i.room }

    clear : NoneStands verdict_checks given
    clear = refusal_of-none verdict_checks given passed

    query_accepted : accepts i.query ≡ true
    query_accepted = (verdict_passed calls.one_link_form one_link_laws given clear).0.query

    encodable : (c : Conjunction) → Encodable (restricted query c)
    encodable c = part_encodable query (restricted query c) (restricted_part query c) (accepted_encodable i.query query_accepted)

    -- what the verdict call is handed says the conjunction's query, and is never refused
    says : (c : Conjunction) → decode (query_of i c) ≡ restricted query c
    unfolding query_of
    says c = decoded (restricted query c) (encodable c)

    asked_clear : (c : Conjunction) → NoneStands verdict_checks (asked c)
    unfolding query_of derivation_checks_of order_check
    asked_clear c = verdict_clear calls.one_link_form one_link_laws (asked c)
        (λ d m. ⊎_elim (first d) (accepts_checks calls.one_link_form one_link_laws (asked c) (encoded_accepts (restricted query c) (encodable c)) d)
        (Memᴰ.cases_cons m)) (verdict_passed calls.one_link_form one_link_laws given clear).1
      where
        first : (d : Check) → d ≡ order_check → d.place (asked c) ≡ none
        first d e = ap (λ (x : Check). x.place (asked c)) e ∙ clear order_check (derivation_known calls.one_link_form one_link_laws order_check (Memᴰ.head refl))

    pub never_refused : (c : Conjunction) → NotRefused (verdict_on i c).answer
    unfolding verdict_on
    never_refused c k place e =
        first_stands verdict_checks (asked c) k place (asked_clear c)
        ((demand1.verdict_refusals.first_exactly (asked c) k place (demand1.verdict_numbered (asked c) k place e)).0 e)

    -- so it says "satisfiable" exactly if a heap meets the conjunction's query
    passes_only : (c : Conjunction) → passes c ≡ true → Satisfiable (restricted query c)
    unfolding verdict_on
    passes_only c h = subst Satisfiable (says c) ((demand2.satisfiable_exactly (asked c) (never_refused c)).0 (says-satisfiable _ h))

    passes_if : (c : Conjunction) → Satisfiable (restricted query c) → passes c ≡ true
    unfolding verdict_on
    passes_if c s = satisfiable-says _ ((demand2.satisfiable_exactly (asked c) (never_refused c)).1 (subst Satisfiable (sym (says c)) s))

    fails_none : (c : Conjunction) → passes c ≡ false → Satisfiable (restricted query c) → ⊥
    fails_none c h s = true-false (passes_if c s) h

    module _ (f : Formula) (there : AllPresent (present query) f) where
      own_of : (k : ℕ) (c : Conjunction) → at (expand f) k ≡ some c → Memᴰ c (expand f)
      own_of k c e = at_own (expand f) k c e

      -- a heap that meets a conjunction's query meets the formula
      meets_formula : (h : Heap) (c : Conjunction) → Memᴰ c (expand f) → Meets h (restricted query c) → MeetsFormula h query f
      meets_formula h c own m =
          record {
            terms = meets_bare h query c m;
            holds = some_holds h query f c own (meets_named h query c (all_named (present query) f there c own) m);
          }

      -- a formula is satisfiable exactly if one of its conjunctions is
      some-satisfiable : SatisfiableFormula query f → (c : Conjunction) × Memᴰ c (expand f) × Satisfiable (restricted query c)
      some-satisfiable s =
          let (h, m) = s in
          let (c, own, all) = holds_some h query f m.holds in
          (c, own, (h, named_meets h query c m.terms all))

      shown : (c : Conjunction) → Memᴰ c (expand f) → passes c ≡ true → ShowsFormula (verdict_on i c).lent query f
      unfolding verdict_on restricted term_count
      shown c own h =
          let s = demand2.heap_shown (asked c) (says-satisfiable _ h) in
          record {
            meets = meets_formula _ c own (subst (λ (q : Query). Meets (heap_in q.links (verdict_call (asked c)).lent) q) (says c) s.meets);
            listed = subst (λ (q : Query). (t : ℕ) → 1 ≤ t → t ≤ term_count q →
                value (heap_in q.links (verdict_call (asked c)).lent) q.entries t ≡ node_in (verdict_call (asked c)).lent t) (says c) s.listed;
          }

      formed : (c : Conjunction) → passes c ≡ true → well_formed 1 (verdict_on i c).lent ≡ true
      unfolding verdict_on
      formed c h = demand1.report_formed (asked c) (says-satisfiable _ h)

      -- An outcome of the search keeps every claim

      module _ (o : Outcome) where
        abbrev answer_of : (a : Answer) (lent : List ℕ) → o ≡ record { answer = a; lent = lent } → o.answer ≡ a
        answer_of a lent e = ap (λ (x : Outcome). x.answer) e

        module _ (k : ℕ) (c : Conjunction) (here : at (expand f) (suc k) ≡ some c) (p : passes c ≡ true)
            (before : (j : ℕ) (d : Conjunction) → j < k → at (expand f) (suc j) ≡ some d → passes d ≡ false)
            (e : o ≡ record { answer = conjunction (suc k); lent = (verdict_on i c).lent }) where
          none_before : (j : ℕ) (d : Conjunction) → j < suc k → at (expand f) j ≡ some d → Satisfiable (restricted query d) → ⊥
          unfolding at
          none_before zero d l a s = none-some a
          none_before (suc j) d l a s = fails_none d (before j d (omega arith) a) s

          is_first : FirstSatisfiable query f (suc k)
          is_first = record { first = c; numbered = here; satisfiable = passes_only c p; none_before = none_before }

          -- another first would be before it or behind it
          first-only : (j : ℕ) → FirstSatisfiable query f j → suc k ≡ j
          first-only j s =
              ⊎_elim
              (λ (l : j ≤ k). absurd (none_before j s.first (omega arith) s.numbered s.satisfiable))
              (λ (l : k < j). ⊎_elim (λ (u : j ≤ suc k). let z : suc k ≡ j = omega arith in z) (λ (u : suc k < j). absurd (s.none_before (suc k) c u here (passes_only c p))) (le_cases j (suc k)))
              (le_cases j k)

          lent_is : o.lent ≡ (verdict_on i c).lent
          lent_is = ap (λ (x : Outcome). x.lent) e

          found_claims : AnswerClaims i f o
          found_claims =
              record {
                first_exactly = λ j. (
                  λ h. subst (FirstSatisfiable query f) (conjunction_one (sym (answer_of _ _ e) ∙ h)) is_first,
                  λ s. answer_of _ _ e ∙ ap conjunction (first-only j s),
                );
                some_exactly = (
                  λ h. let (g, m) = passes_only c p in (g, meets_formula g c (own_of (suc k) c here) m),
                  λ s. (suc k, answer_of _ _ e),
                );
                refuted_exactly = (
                  λ h. absurd (conjunction-refuted (sym (answer_of _ _ e) ∙ h)),
                  λ s. let (g, m) = passes_only c p in absurd (s (g, meets_formula g c (own_of (suc k) c here) m)),
                );
                heap_shown = λ j h. subst (λ (bytes : List ℕ). ShowsFormula bytes query f) (sym lent_is) (shown c (own_of (suc k) c here) p);
                report_formed = λ j h. ap (well_formed 1) lent_is ∙ formed c p;
                report_is = λ j d h a. lent_is ∙ ap (λ (x : Conjunction). (verdict_on i x).lent) (same (sym here ∙ ap (at (expand f)) (conjunction_one (sym (answer_of _ _ e) ∙ h)) ∙ a));
                refuted_blank = λ h. absurd (conjunction-refuted (sym (answer_of _ _ e) ∙ h));
              }
            where
              same : {x y : Conjunction} → some x ≡ some y → x ≡ y
              same e = cc

        module _ (fails : (c : Conjunction) → Memᴰ c (expand f) → passes c ≡ false) (e : o ≡ blank i.room refuted) where
          is_refuted : o.answer ≡ refuted
          unfolding blank
          is_refuted = ap (λ (x : Outcome). x.answer) e

          unsatisfiable : SatisfiableFormula query f → ⊥
          unsatisfiable s = let (c, own, t) = some-satisfiable s in fails_none c (fails c own) t

          no_number : (k : ℕ) → o.answer ≡ conjunction k → ⊥
          no_number k h = conjunction-refuted (sym h ∙ is_refuted)

          absent_claims : AnswerClaims i f o
          unfolding blank
          absent_claims =
              record {
                first_exactly = λ k. (λ h. absurd (no_number k h), λ s. absurd (fails_none s.first (fails s.first (own_of k s.first s.numbered)) s.satisfiable));
                some_exactly = (λ h. absurd (no_number h.0 h.1), λ s. absurd (unsatisfiable s));
                refuted_exactly = (λ h. unsatisfiable, λ s. is_refuted);
                heap_shown = λ k h. absurd (no_number k h);
                report_formed = λ k h. absurd (no_number k h);
                report_is = λ k c h. absurd (no_number k h);
                refuted_blank = λ h. ap (λ (x : Outcome). x.lent) e;
              }

        search_claims : Search 1 (expand f) o → AnswerClaims i f o
        search_claims (found k c a p b e) = found_claims k c a p b (e ∙ ap (λ (m : ℕ). record { answer = conjunction m; lent = (verdict_on i c).lent }) (let z : 1 + k ≡ suc k = omega arith in z))
        search_claims (absent b e) = absent_claims b e

      pub answer_claims : AnswerClaims i f (first_of i 1 (expand f))
      answer_claims = search_claims _ (search 1 (expand f))
