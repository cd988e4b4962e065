-- What is claimed of the formula call's refusals holds.
use Prim.Native.Nat.{ℕ, suc, ◌≤◌, ◌<◌}
use native.Mathlib.Omega.{arith}
use borrow.Author.Tests.{ltb-true, ltb-false, lt-ltb, le-ltb}
use mathlib.Core.Path.{◌≡◌, refl, sym, ap, ap₂, ◌∙◌, subst}
use mathlib.Core.Logic.{◌⊎◌, ⊎_elim, inl, inr, ◌↔◌}
use mathlib.Core.Bool.{Bool, true, false, cond}
use mathlib.Core.List.{List, [], ◌∷◌, Memᴰ}
use mathlib.Core.Option.{Option, none, some, Option-elim}
use lib.ListN.{length, replicate}
use lib.Dec.{ltb}
use Rattle.logic.specs.Calls.{verdict_checks, refusal_of}
use Rattle.logic.specs.Calls as calls
use Rattle.logic.specs.Demands.{FirstStands, numbers}
use Rattle.theory.proofs.Calls.CheckingOrder.{refusal_first, first_stands, Early}
use Rattle.theory.proofs.Calls.Refusals.{one_link_laws, verdict_early}
use Rattle.theory.proofs.Calls.CheckingOrder as checking
use Rattle.theory.proofs.Calls.CallLaws.{refusal_of-none}
use Rattle.formula.specs.Grammar.{Formula}
use Rattle.formula.specs.Expansion.{Conjunction, expand}
use Rattle.formula.specs.Places.{FirstFault}
use Rattle.formula.specs.Reader.{Reading, read_text}
use Rattle.formula.specs.Call.{Input, Answer, refused, refuted, conjunction, Outcome, blank, is_satisfiable, verdict_on, first_of, decided, after_reading, text_outcome, as_refusal, formula_call}
use Rattle.formula.specs.ReadingClaims.{Accepted, checked, present_in, Passed, Taken, RefusalClaims}
use Rattle.formula.proofs.ReadingClaims.{reading_claims}

-- The answers are told apart

refused_same : {j k p q : ℕ} → refused j p ≡ refused k q → (j ≡ k) × (p ≡ q)
refused_same e = (cc, cc)

refuted_refused : {k p : ℕ} → refuted ≡ refused k p → ⊥
refuted_refused e = let z : ◌≡◌ {A = ℕ} 0 1 = cc in omega arith

conjunction_refused : {n k p : ℕ} → conjunction n ≡ refused k p → ⊥
conjunction_refused e = let z : ◌≡◌ {A = ℕ} 0 1 = cc in omega arith

-- The verdict call's checks, whose numbers are none of 17 to 19

not_early : (j k : ℕ) → Early j → j ≡ k → 17 ≤ k → k ≤ 19 → ⊥
not_early j k r e l u = ⊎_elim (λ (low : j ≤ 9). omega arith) (λ high. omega (arith, high)) r.1

module _ (i : Input) where
  check_early : (k p : ℕ) → FirstStands verdict_checks (checked i) k p → Early k
  check_early k p f = verdict_early calls.one_link_form one_link_laws k (checking.first_numbered verdict_checks (checked i) k p f)

  passed_none : Passed i → (k p : ℕ) → FirstStands verdict_checks (checked i) k p → ⊥
  passed_none h k p f = first_stands verdict_checks (checked i) k p (refusal_of-none verdict_checks (checked i) h) f

  -- What the call answers, check by check

  checks_stand : (k p : ℕ) → refusal_of verdict_checks (checked i) ≡ some (calls.refused k p) → formula_call i ≡ blank i.room (refused k p)
  unfolding formula_call Option-elim as_refusal
  checks_stand k p h = rw h refl

  checks_pass : Passed i → formula_call i ≡ text_outcome i
  unfolding formula_call Option-elim
  checks_pass h = rw h refl

  too_long : 512 < length i.text → text_outcome i ≡ blank i.room (refused 17 512)
  unfolding text_outcome
  too_long l = rw (lt-ltb 512 (length i.text) l) refl

  abbrev reading : Reading
  reading = read_text (present_in i) 32 i.text

  short_enough : length i.text ≤ 512 → text_outcome i ≡ after_reading i reading
  unfolding text_outcome
  short_enough l = rw (le-ltb 512 (length i.text) l) refl

  faulty : (k p : ℕ) → FirstFault (present_in i) i.text k p → after_reading i reading ≡ blank i.room (refused k p)
  unfolding after_reading
  faulty k p f = let (behind, e, l) = ((reading_claims (present_in i) i.text).refused_exactly k p).1 f in ap (after_reading i) e ∙ ap (λ (q : ℕ). blank i.room (refused k q)) l

  read_as : (f : Formula) → Accepted (present_in i) i.text f → after_reading i reading ≡ decided i f
  unfolding after_reading
  read_as f a = ap (after_reading i) (((reading_claims (present_in i) i.text).accepted_exactly f).1 a)

  too_many : (f : Formula) → 64 < length (expand f) → decided i f ≡ blank i.room (refused 19 0)
  unfolding decided
  too_many f l = rw (lt-ltb 64 (length (expand f)) l) refl

  few_enough : (f : Formula) → length (expand f) ≤ 64 → decided i f ≡ first_of i 1 (expand f)
  unfolding decided
  few_enough f l = rw (le-ltb 64 (length (expand f)) l) refl

  -- the search refuses nothing
  search_answers : (n : ℕ) (cs : List Conjunction) (k p : ℕ) → (first_of i n cs).answer ≡ refused k p → ⊥
  unfolding first_of blank
  search_answers n [] k p e = refuted_refused e
  search_answers n (c ∷ cs) k p e = by (is_satisfiable (verdict_on i c).answer) (search_answers (suc n) cs k p) e
    where
      by : (t : Bool) → ((first_of i (suc n) cs).answer ≡ refused k p → ⊥) → (cond t (record { answer = conjunction n; lent = (verdict_on i c).lent }) (first_of i (suc n) cs)).answer ≡ refused k p → ⊥
      by true ih e = conjunction_refused e
      by false ih e = ih e

  -- By cases

  data Case : Type 0 where
    by_check : (k p : ℕ) → FirstStands verdict_checks (checked i) k p → formula_call i ≡ blank i.room (refused k p) → Case
    by_length : Passed i → 512 < length i.text → formula_call i ≡ blank i.room (refused 17 512) → Case
    by_fault : Passed i → length i.text ≤ 512 → (k p : ℕ) → FirstFault (present_in i) i.text k p → formula_call i ≡ blank i.room (refused k p) → Case
    by_number : Passed i → length i.text ≤ 512 → (f : Formula) → Accepted (present_in i) i.text f → 64 < length (expand f) → formula_call i ≡ blank i.room (refused 19 0) → Case
    by_search : (f : Formula) → Taken i f → formula_call i ≡ first_of i 1 (expand f) → Case

  cases : Case
  cases = at_checks (refusal_of verdict_checks (checked i)) refl
    where
      at_number : Passed i → length i.text ≤ 512 → (f : Formula) → Accepted (present_in i) i.text f → (t : Bool) → ltb 64 (length (expand f)) ≡ t → Case
      at_number h l f a true m = let n : 64 < length (expand f) = ltb-true 64 (length (expand f)) m in by_number h l f a n (checks_pass h ∙ short_enough l ∙ read_as f a ∙ too_many f n)
      at_number h l f a false m = let n : length (expand f) ≤ 64 = ltb-false 64 (length (expand f)) m in
          by_search f (record { passed = h; short = l; accepted = a; few = n }) (checks_pass h ∙ short_enough l ∙ read_as f a ∙ few_enough f n)

      at_text : Passed i → length i.text ≤ 512 → Case
      at_text h l =
          ⊎_elim
          (λ r. at_number h l r.0 r.1 (ltb 64 (length (expand r.0))) refl)
          (λ r. by_fault h l r.0 r.1 r.2 (checks_pass h ∙ short_enough l ∙ faulty r.0 r.1 r.2))
          (reading_claims (present_in i) i.text).accepted_or_refused

      at_length : Passed i → (t : Bool) → ltb 512 (length i.text) ≡ t → Case
      at_length h true m = let l : 512 < length i.text = ltb-true 512 (length i.text) m in by_length h l (checks_pass h ∙ too_long l)
      at_length h false m = at_text h (ltb-false 512 (length i.text) m)

      at_checks : (o : Option calls.Answer) → refusal_of verdict_checks (checked i) ≡ o → Case
      at_checks none h = at_length h (ltb 512 (length i.text)) refl
      at_checks (some a) h = let (k, p, f, e) = refusal_first verdict_checks (checked i) a h in by_check k p f (checks_stand k p (h ∙ ap some e))

  -- what a refusal leaves
  answer_of : (a : Answer) → formula_call i ≡ blank i.room a → (formula_call i).answer ≡ a
  unfolding blank
  answer_of a e = ap (λ (o : Outcome). o.answer) e

  lent_of : (a : Answer) → formula_call i ≡ blank i.room a → (formula_call i).lent ≡ replicate i.room 0
  unfolding blank
  lent_of a e = ap (λ (o : Outcome). o.lent) e

  -- one refusal is answered
  agree : (j k p q : ℕ) → (formula_call i).answer ≡ refused k q → formula_call i ≡ blank i.room (refused j p) → (j ≡ k) × (p ≡ q)
  agree j k p q h e = refused_same (sym (answer_of (refused j p) e) ∙ h)

  not_searched : (f : Formula) (k p : ℕ) → formula_call i ≡ first_of i 1 (expand f) → (formula_call i).answer ≡ refused k p → ⊥
  not_searched f k p e h = search_answers 1 (expand f) k p (sym (ap (λ (o : Outcome). o.answer) e) ∙ h)

  moved : (j k p q : ℕ) → (j ≡ k) × (p ≡ q) → FirstFault (present_in i) i.text j p → FirstFault (present_in i) i.text k q
  moved j k p q s f = subst (λ (n : ℕ). FirstFault (present_in i) i.text n q) s.0 (subst (FirstFault (present_in i) i.text j) s.1 f)

  fault_numbered : (k p : ℕ) → FirstFault (present_in i) i.text k p → (k ≡ 17) ⊎ (k ≡ 18)
  fault_numbered k p f = ((reading_claims (present_in i) i.text).refused_as k p f).0

  fault_bounds : (k p : ℕ) → FirstFault (present_in i) i.text k p → (17 ≤ k) × (k ≤ 18)
  fault_bounds k p f = ⊎_elim (λ (e : k ≡ 17). (omega arith, omega arith)) (λ e. (omega arith, omega arith)) (fault_numbered k p f)

  checks_first : (k p : ℕ) → Memᴰ k (numbers verdict_checks) → ((formula_call i).answer ≡ refused k p) ↔ FirstStands verdict_checks (checked i) k p
  checks_first k p own = (λ h. there h cases, λ f. back f cases)
    where
      late : (j : ℕ) → j ≡ k → 17 ≤ j → j ≤ 19 → ⊥
      late j e l u = not_early k j (verdict_early calls.one_link_form one_link_laws k own) (sym e) l u

      there : (formula_call i).answer ≡ refused k p → Case → FirstStands verdict_checks (checked i) k p
      there h (by_check j q f e) = let s = agree j k q p h e in subst (λ (n : ℕ). FirstStands verdict_checks (checked i) n p) s.0 (subst (FirstStands verdict_checks (checked i) j) s.1 f)
      there h (by_length o m e) = absurd (late 17 (agree 17 k 512 p h e).0 (omega arith) (omega arith))
      there h (by_fault o m j q f e) = absurd (late j (agree j k q p h e).0 (fault_bounds j q f).0 (omega (arith, (fault_bounds j q f).1)))
      there h (by_number o m f a n e) = absurd (late 19 (agree 19 k 0 p h e).0 (omega arith) (omega arith))
      there h (by_search f t e) = absurd (not_searched f k p e h)

      back : FirstStands verdict_checks (checked i) k p → Case → (formula_call i).answer ≡ refused k p
      back f (by_check j q g e) = let s = checking.first_unique verdict_checks (checked i) j q k p g f in answer_of (refused j q) e ∙ ap₂ refused s.0 s.1
      back f (by_length o m e) = absurd (passed_none o k p f)
      back f (by_fault o m j q g e) = absurd (passed_none o k p f)
      back f (by_number o m g a n e) = absurd (passed_none o k p f)
      back f (by_search g t e) = absurd (passed_none t.passed k p f)

  refused_17 : (p : ℕ) → ((formula_call i).answer ≡ refused 17 p) ↔ (Passed i × (((512 < length i.text) × (p ≡ 512)) ⊎ ((length i.text ≤ 512) × FirstFault (present_in i) i.text 17 p)))
  refused_17 p = (λ h. there h cases, λ h. back h.0 h.1)
    where
      there : (formula_call i).answer ≡ refused 17 p → Case → Passed i × (((512 < length i.text) × (p ≡ 512)) ⊎ ((length i.text ≤ 512) × FirstFault (present_in i) i.text 17 p))
      there h (by_check j q f e) = absurd (not_early j 17 (check_early j q f) (agree j 17 q p h e).0 (omega arith) (omega arith))
      there h (by_length o m e) = (o, inl (m, sym (agree 17 17 512 p h e).1))
      there h (by_fault o m j q f e) = (o, inr (m, moved j 17 q p (agree j 17 q p h e) f))
      there h (by_number o m f a n e) = absurd (omega (arith, (agree 19 17 0 p h e).0))
      there h (by_search f t e) = absurd (not_searched f 17 p e h)

      back : Passed i → ((512 < length i.text) × (p ≡ 512)) ⊎ ((length i.text ≤ 512) × FirstFault (present_in i) i.text 17 p) → (formula_call i).answer ≡ refused 17 p
      back o h = ⊎_elim (λ (m : (512 < length i.text) × (p ≡ 512)). answer_of (refused 17 512) (checks_pass o ∙ too_long m.0)
          ∙ ap (refused 17) (sym m.1)) (λ m. answer_of (refused 17 p) (checks_pass o ∙ short_enough m.0 ∙ faulty 17 p m.1)) h

  refused_18 : (p : ℕ) → ((formula_call i).answer ≡ refused 18 p) ↔ (Passed i × (length i.text ≤ 512) × FirstFault (present_in i) i.text 18 p)
  refused_18 p = (λ h. there h cases, λ h. answer_of (refused 18 p) (checks_pass h.0 ∙ short_enough h.1 ∙ faulty 18 p h.2))
    where
      there : (formula_call i).answer ≡ refused 18 p → Case → Passed i × (length i.text ≤ 512) × FirstFault (present_in i) i.text 18 p
      there h (by_check j q f e) = absurd (not_early j 18 (check_early j q f) (agree j 18 q p h e).0 (omega arith) (omega arith))
      there h (by_length o m e) = absurd (omega (arith, (agree 17 18 512 p h e).0))
      there h (by_fault o m j q f e) = (o, m, moved j 18 q p (agree j 18 q p h e) f)
      there h (by_number o m f a n e) = absurd (omega (arith, (agree 19 18 0 p h e).0))
      there h (by_search f t e) = absurd (not_searched f 18 p e h)

  refused_19 : (p : ℕ) → ((formula_call i).answer ≡ refused 19 p) ↔ (Passed i × (length i.text ≤ 512) × ((f : Formula) × Accepted (present_in i) i.text f × (64 < length (expand f))) × (p ≡ 0))
  refused_19 p = (λ h. there h cases, λ h. let (f, a, n) = h.2 in answer_of (refused 19 0) (checks_pass h.0 ∙ short_enough h.1 ∙ read_as f a ∙ too_many f n) ∙ ap (refused 19) (sym h.3))
    where
      there : (formula_call i).answer ≡ refused 19 p → Case → Passed i × (length i.text ≤ 512) × ((f : Formula) × Accepted (present_in i) i.text f × (64 < length (expand f))) × (p ≡ 0)
      there h (by_check j q f e) = absurd (not_early j 19 (check_early j q f) (agree j 19 q p h e).0 (omega arith) (omega arith))
      there h (by_length o m e) = absurd (omega (arith, (agree 17 19 512 p h e).0))
      there h (by_fault o m j q f e) = absurd (omega (arith, (agree j 19 q p h e).0, (fault_bounds j q f).1))
      there h (by_number o m f a n e) = (o, m, (f, a, n), sym (agree 19 19 0 p h e).1)
      there h (by_search f t e) = absurd (not_searched f 19 p e h)

  refusal_numbered : (k p : ℕ) → (formula_call i).answer ≡ refused k p → Memᴰ k (numbers verdict_checks) ⊎ ((17 ≤ k) × (k ≤ 19))
  refusal_numbered k p h = by cases
    where
      by : Case → Memᴰ k (numbers verdict_checks) ⊎ ((17 ≤ k) × (k ≤ 19))
      by (by_check j q f e) = inl (subst (λ (n : ℕ). Memᴰ n (numbers verdict_checks)) (agree j k q p h e).0 (checking.first_numbered verdict_checks (checked i) j q f))
      by (by_length o m e) = let s = (agree 17 k 512 p h e).0 in inr (omega arith, omega arith)
      by (by_fault o m j q f e) =
          let s = (agree j k q p h e).0 in
          let r = fault_bounds j q f in
          inr (omega (arith, s, r.0), omega (arith, s, r.1))
      by (by_number o m f a n e) = let s = (agree 19 k 0 p h e).0 in inr (omega arith, omega arith)
      by (by_search f t e) = absurd (not_searched f k p e h)

  taken_answer : (f : Formula) → Taken i f → formula_call i ≡ first_of i 1 (expand f)
  taken_answer f t = checks_pass t.passed ∙ short_enough t.short ∙ read_as f t.accepted ∙ few_enough f t.few

  taken_exactly : ((k p : ℕ) → (formula_call i).answer ≡ refused k p → ⊥) ↔ ((f : Formula) × Taken i f)
  taken_exactly = (λ h. there h cases, λ t k p e. not_searched t.0 k p (taken_answer t.0 t.1) e)
    where
      there : ((k p : ℕ) → (formula_call i).answer ≡ refused k p → ⊥) → Case → (f : Formula) × Taken i f
      there h (by_check j q f e) = absurd (h j q (answer_of (refused j q) e))
      there h (by_length o m e) = absurd (h 17 512 (answer_of (refused 17 512) e))
      there h (by_fault o m j q f e) = absurd (h j q (answer_of (refused j q) e))
      there h (by_number o m f a n e) = absurd (h 19 0 (answer_of (refused 19 0) e))
      there h (by_search f t e) = (f, t)

  refusal_blank : (k p : ℕ) → (formula_call i).answer ≡ refused k p → (formula_call i).lent ≡ replicate i.room 0
  refusal_blank k p h = by cases
    where
      by : Case → (formula_call i).lent ≡ replicate i.room 0
      by (by_check j q f e) = lent_of (refused j q) e
      by (by_length o m e) = lent_of (refused 17 512) e
      by (by_fault o m j q f e) = lent_of (refused j q) e
      by (by_number o m f a n e) = lent_of (refused 19 0) e
      by (by_search f t e) = absurd (not_searched f k p e h)

  pub refusal_claims : RefusalClaims i
  refusal_claims =
      record {
        checks_first = checks_first;
        refused_17 = refused_17;
        refused_18 = refused_18;
        refused_19 = refused_19;
        refusal_numbered = refusal_numbered;
        taken_exactly = taken_exactly;
        taken_answer = taken_answer;
        refusal_blank = refusal_blank;
      }
