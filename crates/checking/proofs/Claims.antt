-- What is claimed of the call holds.
use Prim.Native.Nat.{ℕ, zero, suc, ◌+◌, ◌*◌, ◌-◌, ◌≤◌}
use native.Mathlib.Omega.{arith}
use borrow.Author.Tests.{le-ltb}
use mathlib.Core.Path.{◌≡◌, refl, sym, ap, ap₂, ◌∙◌, subst}
use mathlib.Core.Logic.{⊎_elim, ◌↔◌}
use mathlib.Core.Bool.{Bool, true, false}
use mathlib.Core.List.Memᴰ
use mathlib.Core.List.{List, [], ◌∷◌, ◌++◌, append-nil, Memᴰ}
use mathlib.Core.Option.{Option, none, some, Option-elim}
use lib.ListN.{length, take, replicate}
use Rattle.logic.specs.Search.{◌or◌, select, is_some}
use Rattle.logic.specs.Heap.{Satisfiable}
use Rattle.logic.specs.Facts.{Line}
use Rattle.logic.specs.Walk.{Pick, hand_verdict}
use Rattle.logic.specs.Walk as walk
use Rattle.logic.specs.Derivation.{Derivation, derivation_bytes, lines_from, lines_in}
use Rattle.logic.specs.Calls.{Input, layout_check, byte_check, form_checks, query_checks, CallForm, one_link_form, Answer, padded, derivation_call_of, accepts_by}
use Rattle.logic.specs.Calls as calls
use Rattle.logic.specs.ThreeLinks.{link_check, link_checks, three_link_form}
use Rattle.logic.specs.Demands.{FirstStands, numbers}
use Rattle.theory.proofs.Basics.Search.{not-true, is_some-false}
use Rattle.theory.proofs.Basics.Compare.{eqb_self}
use Rattle.theory.proofs.Soundness.Refuted.{derivation_sound}
use Rattle.theory.proofs.Calls.CheckingOrder.{refusal_first, first_unique, first_numbered, first_stands}
use Rattle.theory.proofs.Calls.CallLaws.{FormLaws, derivation_passed, refusal_of-none}
use Rattle.theory.proofs.Calls.Refusals.{one_link_laws}
use Rattle.theory.proofs.Calls.DerivationBytes.{derivation_length, lines_read}
use Rattle.theory.proofs.Calls.Demands.{demand1_of, demand2_of}
use Rattle.theory.proofs.Calls.ThreeLinks.{three_link_laws}
use Rattle.checking.specs.Fitting.{FirstWrong, wrong_line}
use Rattle.checking.specs.CheckCall.{accepted, wrong, refused, count_in, misshapen, by_wrong, refused_query, query_refusal, check_call_of}
use Rattle.checking.specs.Hand.{is_clash_line, Ends}
use Rattle.checking.specs.Claims.{query_alone, unpadded, Taken, WithinAccepted, row_after, HandAccepted, Claims, ChecksInOrder}
use Rattle.checking.proofs.Bytes.{FormBytes, one_link_bytes, three_link_bytes, derivation_bytes_lem}
use Rattle.checking.proofs.Hand.{hand_writes, refuted-ends, vain_stays}
use Rattle.checking.proofs.Judged.{zero_exactly, wrong_number, first_placed}

-- The answers are told apart

accepted_wrong : {k : ℕ} → accepted ≡ wrong k → ⊥
accepted_wrong e = let z : ◌≡◌ {A = ℕ} 0 1 = cc in omega arith

accepted_refused : {k p : ℕ} → accepted ≡ refused k p → ⊥
accepted_refused e = let z : ◌≡◌ {A = ℕ} 0 1 = cc in omega arith

wrong_refused : {j k p : ℕ} → wrong j ≡ refused k p → ⊥
wrong_refused e = let z : ◌≡◌ {A = ℕ} 0 1 = cc in omega arith

refused_same : {j k p r : ℕ} → refused j p ≡ refused k r → (j ≡ k) × (p ≡ r)
refused_same e = (cc, cc)

wrong-same : {j k : ℕ} → wrong j ≡ wrong k → j ≡ k
wrong-same e = cc

-- The checks of the query

pub checks_in_order : ChecksInOrder
unfolding query_checks form_checks link_checks link_check layout_check byte_check
checks_in_order = record { query_checks_lem = refl; link_query_checks = refl }

module _ (form : CallForm) where
  -- 20 is none of them
  not_twenty : FormLaws form → {k : ℕ} → Memᴰ k (numbers form.checks) → k ≡ 20 → ⊥
  not_twenty laws {k} m e = ⊎_elim (λ u. omega (arith, u, e)) (λ q. omega (arith, q, e)) (laws.early k m).0.1

  -- a query is accepted exactly where none of them stands
  accepts_none : (query : List ℕ) → accepts_by form query ≡ true → query_refusal form query ≡ none
  unfolding accepts_by query_refusal
  accepts_none query h = is_some-false _ (not-true h)

  none_accepts : (query : List ℕ) → query_refusal form query ≡ none → accepts_by form query ≡ true
  unfolding accepts_by query_refusal is_some
  none_accepts query h = rw h

  -- a refusal is that of the first that stands
  refusal_by : (query : List ℕ) (a : Answer) → query_refusal form query ≡ some a → (k : ℕ) × (p : ℕ) × FirstStands form.checks (query_alone query) k p × (a ≡ calls.refused k p)
  unfolding query_refusal
  refusal_by query a h = refusal_first form.checks (query_alone query) a h

  none_stands : (query : List ℕ) → query_refusal form query ≡ none → (k p : ℕ) → FirstStands form.checks (query_alone query) k p → ⊥
  unfolding query_refusal
  none_stands query h k p f = first_stands form.checks (query_alone query) k p (refusal_of-none form.checks (query_alone query) h) f

-- What the call answers, by cases

module _ (form : CallForm) (query derivation : List ℕ) where
  abbrev number : ℕ
  number = wrong_line (form.decode query) (lines_in derivation)

  pub check_refused : (k p : ℕ) → query_refusal form query ≡ some (calls.refused k p) → check_call_of form query derivation ≡ refused k p
  unfolding check_call_of Option-elim refused_query
  check_refused k p h = rw h

  pub check_misshapen : query_refusal form query ≡ none → misshapen derivation ≡ true → check_call_of form query derivation ≡ refused 20 0
  unfolding check_call_of Option-elim
  check_misshapen h m = rw (h, m)

  pub check_judged : query_refusal form query ≡ none → misshapen derivation ≡ false → check_call_of form query derivation ≡ by_wrong number
  unfolding check_call_of Option-elim
  check_judged h m = rw (h, m)

  data Case : Type 0 where
    by_query : (k p : ℕ) → FirstStands form.checks (query_alone query) k p → check_call_of form query derivation ≡ refused k p → Case
    by_shape : accepts_by form query ≡ true → misshapen derivation ≡ true → check_call_of form query derivation ≡ refused 20 0 → Case
    by_lines : Taken form query derivation → number ≡ 0 → check_call_of form query derivation ≡ accepted → Case
    by_line : Taken form query derivation → (k : ℕ) → number ≡ suc k → check_call_of form query derivation ≡ wrong (suc k) → Case

  cases : Case
  unfolding by_wrong
  cases = at_query (query_refusal form query) refl
    where
      at_number : query_refusal form query ≡ none → misshapen derivation ≡ false → (k : ℕ) → number ≡ k → Case
      at_number h m zero e = by_lines (none_accepts form query h, m) e (check_judged h m ∙ ap by_wrong e)
      at_number h m (suc k) e = by_line (none_accepts form query h, m) k e (check_judged h m ∙ ap by_wrong e)

      at_shape : query_refusal form query ≡ none → (b : Bool) → misshapen derivation ≡ b → Case
      at_shape h true m = by_shape (none_accepts form query h) m (check_misshapen h m)
      at_shape h false m = at_number h m number refl

      at_query : (o : Option Answer) → query_refusal form query ≡ o → Case
      at_query none h = at_shape h (misshapen derivation) refl
      at_query (some a) h = let (k, p, f, e) = refusal_by form query a h in by_query k p f (check_refused k p (h ∙ ap some e))

  taken_judged : Taken form query derivation → check_call_of form query derivation ≡ by_wrong number
  taken_judged t = check_judged (accepts_none form query t.0) t.1

  accepted_exactly : (check_call_of form query derivation ≡ accepted) ↔ (Taken form query derivation × Derivation (form.decode query) (lines_in derivation))
  unfolding by_wrong
  accepted_exactly = (λ h. there h cases, λ d. taken_judged d.0 ∙ ap by_wrong ((zero_exactly (form.decode query) (lines_in derivation)).1 d.1))
    where
      there : check_call_of form query derivation ≡ accepted → Case → Taken form query derivation × Derivation (form.decode query) (lines_in derivation)
      there h (by_query k p f e) = absurd (accepted_refused (sym h ∙ e))
      there h (by_shape a m e) = absurd (accepted_refused (sym h ∙ e))
      there h (by_lines t n e) = (t, (zero_exactly (form.decode query) (lines_in derivation)).0 n)
      there h (by_line t k n e) = absurd (accepted_wrong (sym h ∙ e))

  wrong_exactly : (k : ℕ) → (check_call_of form query derivation ≡ wrong k) ↔ (Taken form query derivation × FirstWrong (form.decode query) (lines_in derivation) k)
  unfolding by_wrong
  wrong_exactly k = (λ h. there h cases, λ d. back k d.0 d.1)
    where
      there : check_call_of form query derivation ≡ wrong k → Case → Taken form query derivation × FirstWrong (form.decode query) (lines_in derivation) k
      there h (by_query j p f e) = absurd (wrong_refused (sym h ∙ e))
      there h (by_shape a m e) = absurd (wrong_refused (sym h ∙ e))
      there h (by_lines t n e) = absurd (accepted_wrong (sym e ∙ h))
      there h (by_line t j n e) = (t, subst (FirstWrong (form.decode query) (lines_in derivation)) (wrong-same (sym e ∙ h)) ((wrong_number (form.decode query) (lines_in derivation) j).0 n))

      back : (k : ℕ) → Taken form query derivation → FirstWrong (form.decode query) (lines_in derivation) k → check_call_of form query derivation ≡ wrong k
      back zero t w = absurd (omega (arith, w.number))
      back (suc j) t w = taken_judged t ∙ ap by_wrong ((wrong_number (form.decode query) (lines_in derivation) j).1 w)

  refused_exactly : FormLaws form → (k place : ℕ) → Memᴰ k (numbers form.checks) → (check_call_of form query derivation ≡ refused k place) ↔ FirstStands form.checks (query_alone query) k place
  refused_exactly laws k place own = (λ h. there h cases, λ f. back f cases)
    where
      there : check_call_of form query derivation ≡ refused k place → Case → FirstStands form.checks (query_alone query) k place
      there h (by_query j p f e) =
          let (a, b) = refused_same (sym e ∙ h) in
          subst (λ (x : ℕ). FirstStands form.checks (query_alone query) x place) a (subst (FirstStands form.checks (query_alone query) j) b f)
      there h (by_shape a m e) = absurd (not_twenty form laws own (sym (refused_same (sym e ∙ h)).0))
      there h (by_lines t n e) = absurd (accepted_refused (sym e ∙ h))
      there h (by_line t j n e) = absurd (wrong_refused (sym e ∙ h))

      back : FirstStands form.checks (query_alone query) k place → Case → check_call_of form query derivation ≡ refused k place
      back f (by_query j p g e) = let (a, b) = first_unique form.checks (query_alone query) j p k place g f in e ∙ ap₂ refused a b
      back f (by_shape a m e) = absurd (none_stands form query (accepts_none form query a) k place f)
      back f (by_lines t n e) = absurd (none_stands form query (accepts_none form query t.0) k place f)
      back f (by_line t j n e) = absurd (none_stands form query (accepts_none form query t.0) k place f)

  shape_exactly : FormLaws form → (place : ℕ) → (check_call_of form query derivation ≡ refused 20 place) ↔ ((place ≡ 0) × (accepts_by form query ≡ true) × (misshapen derivation ≡ true))
  shape_exactly laws place = (λ h. there h cases, λ d. check_misshapen (accepts_none form query d.1) d.2 ∙ ap (refused 20) (sym d.0))
    where
      there : check_call_of form query derivation ≡ refused 20 place → Case → (place ≡ 0) × (accepts_by form query ≡ true) × (misshapen derivation ≡ true)
      there h (by_query j p f e) = absurd (not_twenty form laws (first_numbered form.checks (query_alone query) j p f) (refused_same (sym e ∙ h)).0)
      there h (by_shape a m e) = (sym (refused_same (sym e ∙ h)).1, a, m)
      there h (by_lines t n e) = absurd (accepted_refused (sym e ∙ h))
      there h (by_line t j n e) = absurd (wrong_refused (sym e ∙ h))

  refusal_numbered : (k place : ℕ) → check_call_of form query derivation ≡ refused k place → Memᴰ k (numbers form.checks ++ (20 ∷ []))
  refusal_numbered k place h = there cases
    where
      there : Case → Memᴰ k (numbers form.checks ++ (20 ∷ []))
      there (by_query j p f e) =
          subst (λ (x : ℕ). Memᴰ x (numbers form.checks ++ (20 ∷ []))) (refused_same (sym e ∙ h)).0
          (Memᴰ.append_left (20 ∷ []) (first_numbered form.checks (query_alone query) j p f))
      there (by_shape a m e) = Memᴰ.append_right (numbers form.checks) (Memᴰ.head (sym (refused_same (sym e ∙ h)).0))
      there (by_lines t n e) = absurd (accepted_refused (sym e ∙ h))
      there (by_line t j n e) = absurd (wrong_refused (sym e ∙ h))

  accepted_sound : FormLaws form → check_call_of form query derivation ≡ accepted → Satisfiable (form.decode query) → ⊥
  accepted_sound laws h =
      let (t, d) = accepted_exactly.0 h in
      derivation_sound (form.decode query) (laws.accepted_query query t.0) d

-- The lines in the bytes, and how many

lines-count : (k : ℕ) (bytes : List ℕ) → length (lines_from k bytes) ≡ k
unfolding lines_from
lines-count zero bytes = refl
lines-count (suc k) bytes = ap suc (lines-count k _)

pub count_lines : (bytes : List ℕ) → length (lines_in bytes) ≡ count_in bytes
unfolding lines_in count_in
count_lines bytes = lines-count _ _

wrong_placed : (f : CallForm) (query derivation : List ℕ) (k : ℕ) → check_call_of f query derivation ≡ wrong k → (1 ≤ k) × (k ≤ count_in derivation + 1)
wrong_placed f query derivation k h =
    let r = first_placed (f.decode query) (lines_in derivation) k ((wrong_exactly f query derivation k).0 h).1 in
    (r.0, omega (arith, r.1, count_lines derivation))

-- Derivations as they are written

counted : (lines : List Line) (rest : List ℕ) → count_in (derivation_bytes lines ++ rest) ≡ length lines
unfolding count_in derivation_bytes
counted lines rest = omega arith

take_all : (xs ys : List ℕ) → take (length xs) (xs ++ ys) ≡ xs
take_all [] ys = refl
take_all (x ∷ xs) ys = ap (λ (r : List ℕ). x ∷ r) (take_all xs ys)

written_taken : (lines : List Line) → length lines ≤ 16000 → misshapen (derivation_bytes lines) ≡ false
unfolding misshapen ◌or◌
written_taken lines l =
    let c : count_in (derivation_bytes lines) ≡ length lines = ap count_in (sym (append-nil (derivation_bytes lines))) ∙ counted lines [] in
    rw (c, derivation_length lines, eqb_self (2 + 4 * length lines)) (le-ltb 16000 (length lines) l)

pub derivation_accepted : (f : CallForm) (query : List ℕ) (lines : List Line) → accepts_by f query ≡ true → Derivation (f.decode query) lines → WithinAccepted f query lines
derivation_accepted f query lines a d l =
    let e : lines_in (derivation_bytes lines) ≡ lines = ap lines_in (sym (append-nil (derivation_bytes lines))) ∙ lines_read lines [] in
    (accepted_exactly f query (derivation_bytes lines)).1 ((a, written_taken lines l), subst (Derivation (f.decode query)) (sym e) d)

-- what is left of a padded derivation without the zeros
unpadded_written : (room : ℕ) (lines : List Line) → unpadded (padded room (derivation_bytes lines)) ≡ derivation_bytes lines
unfolding padded
unpadded_written room lines =
    let zeros : List ℕ = replicate (room - length (derivation_bytes lines)) 0 in
    ap (λ (k : ℕ). take (2 + 4 * k) (derivation_bytes lines ++ zeros)) (counted lines zeros)
    ∙ ap (λ (k : ℕ). take k (derivation_bytes lines ++ zeros)) (sym (derivation_length lines))
    ∙ take_all (derivation_bytes lines) zeros

ours_accepted : (f : CallForm) → FormLaws f → (i : Input) → (derivation_call_of f i).answer ≡ calls.refuted → check_call_of f i.query (unpadded (derivation_call_of f i).lent) ≡ accepted
ours_accepted f laws i h =
    let lent = (derivation_call_of f i).lent in
    let one = demand1_of f laws in
    let two = demand2_of f laws in
    let passed : accepts_by f i.query ≡ true = (derivation_passed f laws i ((one.lines_exactly i).0 h).0).query in
    let e : unpadded lent ≡ derivation_bytes (lines_in lent) = ap unpadded (two.derivation_formed i h) ∙ unpadded_written i.room (lines_in lent) in
    ap (check_call_of f i.query) e
    ∙ derivation_accepted f i.query (lines_in lent) passed (two.derivation_follows i h) (two.derivation_counted i h).0

-- Derivations by a hand

module _ (f : CallForm) (query : List ℕ) (picks : List Pick) where
  abbrev EndedBy : List Line → Type 0
  EndedBy ends = (lines : List Line) × HandAccepted f query picks lines × (select is_clash_line lines ≡ ends)

  hand_any_clash : (ends : List Line) → accepts_by f query ≡ true → Ends (f.decode query) (row_after f query picks) ends → EndedBy ends
  hand_any_clash ends a e =
      let (lines, writes, same) = hand_writes (f.decode query) picks ends e in
      (lines, (writes, derivation_accepted f query lines a writes.follows), same)

  hand_accepted : accepts_by f query ≡ true → hand_verdict (f.decode query) (row_after f query picks) ≡ some walk.refuted → (lines : List Line) × HandAccepted f query picks lines
  hand_accepted a h =
      let (ends, e) = refuted-ends (f.decode query) (row_after f query picks) h in
      let (lines, held, same) = hand_any_clash ends a e in
      (lines, held)

-- all of it, for every form of which a few laws hold
pub claims_of : (f : CallForm) → FormLaws f → FormBytes f → Claims f
claims_of f laws bytes =
    record {
      accepted_exactly = accepted_exactly f;
      wrong_exactly = wrong_exactly f;
      wrong_placed = wrong_placed f;
      refused_exactly = λ query derivation. refused_exactly f query derivation laws;
      shape_exactly = λ query derivation. shape_exactly f query derivation laws;
      refusal_numbered = refusal_numbered f;
      accepted_sound = λ query derivation. accepted_sound f query derivation laws;
      ours_accepted = ours_accepted f laws;
      hand_accepted = hand_accepted f;
      hand_any_clash = hand_any_clash f;
      vain_stays = vain_stays;
      lines_bytes = λ query lines a d. derivation_bytes_lem f laws bytes query a d;
    }

-- the form of 01, and that of R-11
pub claims : Claims one_link_form
claims = claims_of one_link_form one_link_laws one_link_bytes

pub links_claims : Claims three_link_form
links_claims = claims_of three_link_form three_link_laws three_link_bytes
