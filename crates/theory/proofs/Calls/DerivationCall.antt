-- What the derivation call does, by cases, and each of its answers exactly where it should be.
use Prim.Native.Nat.{ℕ, ◌+◌, ◌*◌, ◌≤◌}
use native.Mathlib.Omega.{arith}
use mathlib.Core.Path.{◌≡◌, refl, sym, ap, ◌∙◌, subst}
use mathlib.Core.Logic.{◌↔◌, ◌⊎◌, ⊎_elim, inl, inr}
use mathlib.Core.List.{List, Memᴰ}
use lib.ListN.{length}
use lib.Dec.{ltb}
use borrow.Author.Tests.{lt-ltb, le-ltb}
use Rattle.logic.specs.Search.{◌or◌}
use Rattle.logic.specs.Heap.{Satisfiable}
use Rattle.logic.specs.Facts.{Facts, Line}
use Rattle.logic.specs.Walk.{Ending, refutation, saturation}
use Rattle.logic.specs.Derivation.{derivation_bytes, lines_in}
use Rattle.logic.specs.Calls.{Input, CallForm, derivation_checks_of, Outcome, Answer, refused, padded, blank, derivation_of, derivation_call_of}
use Rattle.logic.specs.Demands.{NotRefused, NoneStands, numbers, walk_of, Refusals, Fits, Exceeds}
use Rattle.theory.proofs.Basics.Search.{or_left, or_right}
use Rattle.theory.proofs.Basics.Compare.{le_cases, cond-true}
use Rattle.theory.proofs.Calls.Verdicts.{our_model, our_refuted, model_satisfiable}
use Rattle.theory.proofs.Calls.CheckingOrder.{first_numbered}
use Rattle.theory.proofs.Calls.CallLaws.{FormLaws, derivation_passed, blank-length}
use Rattle.theory.proofs.Calls.Refusals.{refused_one, blank-answer, blank-lent, Late, Lawful, CallCase, by_check, by_walk, call_case, call_clear, refusals, derivation_early, derivation_placed}
use Rattle.theory.proofs.Calls.VerdictCall.{refused_refuted}
use Rattle.theory.proofs.Calls.DerivationBytes.{derivation_fits, lines_padded}

-- what the call leaves of lines that fit
abbrev pub written : ℕ → List Line → Outcome
written room ls = record { answer = Answer.refuted; lent = padded room (derivation_bytes ls) }

-- lines that fit are written, and others are refused
pub lines_fit : (room : ℕ) (ls : List Line) → Fits room ls → derivation_of room (refutation ls) ≡ written room ls
unfolding derivation_of ◌or◌
lines_fit room ls f = rw (le-ltb 16000 (length ls) f.0, le-ltb room (2 + 4 * length ls) f.1)

pub lines_exceed : (room : ℕ) (ls : List Line) → Exceeds room ls → derivation_of room (refutation ls) ≡ blank room (refused 12 0)
unfolding derivation_of
lines_exceed room ls x =
    cond-true (blank room (refused 12 0)) (written room ls)
    (⊎_elim (λ l. or_left (ltb room (2 + 4 * length ls)) (lt-ltb 16000 (length ls) l)) (λ l. or_right (ltb 16000 (length ls)) (lt-ltb room (2 + 4 * length ls) l)) x)

fits-or-not : (room : ℕ) (ls : List Line) → Fits room ls ⊎ Exceeds room ls
fits-or-not room ls =
    ⊎_elim (λ f. ⊎_elim (λ g. inl (f, g)) (λ g. inr (inr g)) (le_cases (2 + 4 * length ls) room)) (λ l. inr (inl l)) (le_cases (length ls) 16000)

-- What the walk's ending makes of the call.
data Ends (room : ℕ) (w : Ending) (o : Outcome) : Type 0 where
  at_model : (s : Facts) → w ≡ saturation s → o ≡ blank room (refused 11 0) → Ends room w o
  at_excess : (ls : List Line) → w ≡ refutation ls → Exceeds room ls → o ≡ blank room (refused 12 0) → Ends room w o
  at_lines : (ls : List Line) → w ≡ refutation ls → Fits room ls → o ≡ written room ls → Ends room w o

ends : (room : ℕ) (w : Ending) → Ends room w (derivation_of room w)
unfolding derivation_of
ends room (saturation s) = at_model s refl refl
ends room (refutation ls) = ⊎_elim (λ f. at_lines ls refl f (lines_fit room ls f)) (λ x. at_excess ls refl x (lines_exceed room ls x)) (fits-or-not room ls)

-- refusals 11 and 12
late : (room : ℕ) (o : Outcome) (j k place : ℕ) → 11 ≤ j → j ≤ 12 → o ≡ blank room (refused j 0) → o.answer ≡ refused k place → Late room k place o.lent
late room o j k place l u e h =
    let q = refused_one (sym (blank-answer o room _ e) ∙ h) in
    record { placed = sym q.1; above = omega (arith, q.0, l); below = omega (arith, q.0, u); zeros = blank-lent o room _ e }

ends_late : (room : ℕ) (w : Ending) (o : Outcome) (k place : ℕ) → Ends room w o → o.answer ≡ refused k place → Late room k place o.lent
ends_late room w o k place (at_model s m e) h = late room o 11 k place (omega arith) (omega arith) e h
ends_late room w o k place (at_excess ls m x e) h = late room o 12 k place (omega arith) (omega arith) e h
ends_late room w o k place (at_lines ls m f e) h = absurd (refused_refuted (sym (ap (λ (x : Outcome). x.answer) e) ∙ h))

ends-whole : (room : ℕ) (w : Ending) (o : Outcome) → Ends room w o → length o.lent ≡ room
ends-whole room w o (at_model s m e) = ap (λ (x : Outcome). length x.lent) e ∙ blank-length room _
ends-whole room w o (at_excess ls m x e) = ap (λ (x : Outcome). length x.lent) e ∙ blank-length room _
ends-whole room w o (at_lines ls m f e) = ap (λ (x : Outcome). length x.lent) e ∙ derivation_fits room ls f.1

-- the call writes just what it was lent
pub derivation_whole : (room : ℕ) (w : Ending) → length (derivation_of room w).lent ≡ room
derivation_whole room w = ends-whole room w (derivation_of room w) (ends room w)

module _ (f : CallForm) (laws : FormLaws f) where
  abbrev derivation_at : Input → Ending → Outcome
  derivation_at i = derivation_of i.room

  derivation_lawful : Lawful f (derivation_checks_of f) derivation_at
  unfolding derivation_of
  derivation_lawful =
      record {
        early = derivation_early f laws;
        placed = derivation_placed f laws;
        late = λ i w k place h. ends_late i.room w _ k place (ends i.room w) h;
        whole = λ i h. derivation_whole i.room (walk_of f i);
      }

  pub derivation_refusals : Refusals (derivation_checks_of f) f.longest (derivation_call_of f)
  unfolding derivation_call_of
  derivation_refusals = refusals f (derivation_checks_of f) derivation_at derivation_lawful

  pub derivation_of_lem : (i : Input) → NoneStands (derivation_checks_of f) i → derivation_call_of f i ≡ derivation_at i (walk_of f i)
  unfolding derivation_call_of
  derivation_of_lem i h = call_clear f (derivation_checks_of f) (derivation_at i) i h

  -- Why the call answers what it does.
  abbrev Modelled : Input → Type 0
  Modelled i = NoneStands (derivation_checks_of f) i × ((s : Facts) × (walk_of f i ≡ saturation s))

  abbrev Lines : (ℕ → List Line → Type 0) → Input → Type 0
  Lines P i = NoneStands (derivation_checks_of f) i × ((ls : List Line) × (walk_of f i ≡ refutation ls) × P i.room ls)

  abbrev pub Reason : Input → Answer → Type 0
  Reason i (refused k place) = Memᴰ k (numbers (derivation_checks_of f)) ⊎ ((place ≡ 0) × (((k ≡ 11) × Modelled i) ⊎ ((k ≡ 12) × Lines Exceeds i)))
  Reason i Answer.satisfiable = ⊥
  Reason i Answer.refuted = Lines Fits i

  ends_reason : (i : Input) (o : Outcome) → NoneStands (derivation_checks_of f) i → Ends i.room (walk_of f i) o → Reason i o.answer
  ends_reason i o n (at_model s w e) = subst (Reason i) (sym (blank-answer o i.room _ e)) (inr (refl, inl (refl, (n, (s, w)))))
  ends_reason i o n (at_excess ls w x e) = subst (Reason i) (sym (blank-answer o i.room _ e)) (inr (refl, inr (refl, (n, (ls, w, x)))))
  ends_reason i o n (at_lines ls w g e) = subst (Reason i) (sym (ap (λ (x : Outcome). x.answer) e)) (n, (ls, w, g))

  case_reason : (i : Input) (o : Outcome) → CallCase f (derivation_checks_of f) derivation_at i o → Reason i o.answer
  case_reason i o (by_check k place c e) =
      subst (Reason i) (sym (blank-answer o i.room _ e)) (inl (first_numbered (derivation_checks_of f) i k place c))
  case_reason i o (by_walk n e) = ends_reason i o n (subst (Ends i.room (walk_of f i)) (sym e) (ends i.room (walk_of f i)))

  reason : (i : Input) → Reason i (derivation_call_of f i).answer
  unfolding derivation_call_of
  reason i = case_reason i _ (call_case f (derivation_checks_of f) derivation_at derivation_lawful i)

  module _ (i : Input) where
    abbrev a : Answer
    a = (derivation_call_of f i).answer

    pub never_satisfiable : a ≡ Answer.satisfiable → ⊥
    never_satisfiable h = subst (Reason i) h (reason i)

    -- 11 and 12 are no checks
    no_check : (k : ℕ) → 11 ≤ k → k ≤ 12 → Memᴰ k (numbers (derivation_checks_of f)) → ⊥
    no_check k l u m = ⊎_elim (λ v. omega (arith, v, l)) (λ e. omega (arith, e, u)) (derivation_early f laws k m).1

    -- 11: the walk found a model
    eleven : (place : ℕ) → a ≡ refused 11 place → (place ≡ 0) × Modelled i
    eleven place h =
        ⊎_elim (λ l. absurd (no_check 11 (omega arith) (omega arith) l)) (λ r. (r.0, ⊎_elim (λ m. m.1) (λ m. absurd (omega (arith, m.0))) r.1)) (subst (Reason i) h (reason i))

    twelve : (place : ℕ) → a ≡ refused 12 place → (place ≡ 0) × Lines Exceeds i
    twelve place h =
        ⊎_elim (λ l. absurd (no_check 12 (omega arith) (omega arith) l)) (λ r. (r.0, ⊎_elim (λ m. absurd (omega (arith, m.0))) (λ m. m.1) r.1)) (subst (Reason i) h (reason i))

    lines : a ≡ Answer.refuted → Lines Fits i
    lines h = subst (Reason i) h (reason i)

    -- a walk has a model or lines
    modelled_satisfiable : Modelled i → Satisfiable (f.decode i.query)
    modelled_satisfiable (n, (s, w)) =
        let p = derivation_passed f laws i n in
        let ok = laws.accepted_query i.query p.query in
        model_satisfiable (f.decode i.query) ok s (our_model (f.decode i.query) ok i.order p.order s w)

    lines_unsatisfiable : NoneStands (derivation_checks_of f) i → (ls : List Line) → walk_of f i ≡ refutation ls → Satisfiable (f.decode i.query) → ⊥
    lines_unsatisfiable n ls w = our_refuted (f.decode i.query) (laws.accepted_query i.query (derivation_passed f laws i n).query) i.order ls w

    found : NoneStands (derivation_checks_of f) i → Satisfiable (f.decode i.query) → (s : Facts) × (walk_of f i ≡ saturation s)
    found n h = go (walk_of f i) refl
      where
        go : (w : Ending) → walk_of f i ≡ w → (s : Facts) × (walk_of f i ≡ saturation s)
        go (refutation ls) e = absurd (lines_unsatisfiable n ls e h)
        go (saturation s) e = (s, e)

    pub model_answered : (s : Facts) → NoneStands (derivation_checks_of f) i → walk_of f i ≡ saturation s → a ≡ refused 11 0
    unfolding derivation_of
    model_answered s n w = blank-answer (derivation_call_of f i) i.room _ (derivation_of_lem i n ∙ ap (derivation_at i) w)

    pub heap_exactly : (place : ℕ) → (a ≡ refused 11 place) ↔ ((place ≡ 0) × NoneStands (derivation_checks_of f) i × Satisfiable (f.decode i.query))
    heap_exactly place = (
      λ h. let (z, m) = eleven place h in (z, m.0, modelled_satisfiable m),
      λ h. let g = found h.1 h.2 in model_answered g.0 h.1 g.1 ∙ ap (refused 11) (sym h.0),
    )

    pub excess_exactly : (place : ℕ) → (a ≡ refused 12 place) ↔
        ((place ≡ 0) × NoneStands (derivation_checks_of f) i × (Satisfiable (f.decode i.query) → ⊥)
        × ((ls : List Line) × (walk_of f i ≡ refutation ls) × Exceeds i.room ls))
    excess_exactly place = (
      λ h. let (z, l) = twelve place h in (z, l.0, lines_unsatisfiable l.0 l.1.0 l.1.1, l.1),
      λ h. blank-answer (derivation_call_of f i) i.room _ (derivation_of_lem i h.1 ∙ ap (derivation_at i) h.3.1 ∙ lines_exceed i.room h.3.0 h.3.2) ∙ ap (refused 12) (sym h.0),
    )

    pub lines_exactly : (a ≡ Answer.refuted) ↔ (NoneStands (derivation_checks_of f) i × ((ls : List Line) × (walk_of f i ≡ refutation ls) × Fits i.room ls))
    lines_exactly = (
      lines,
      λ h. ap (λ (o : Outcome). o.answer) (derivation_of_lem i h.0 ∙ ap (derivation_at i) h.1.1 ∙ lines_fit i.room h.1.0 h.1.2),
    )

    -- the model behind an 11, and "refuted" where there is no refusal
    pub eleven_modelled : (place : ℕ) → a ≡ refused 11 place → NoneStands (derivation_checks_of f) i × ((s : Facts) × (walk_of f i ≡ saturation s))
    eleven_modelled place h = (eleven place h).1

    pub unrefused_refuted : NotRefused a → a ≡ Answer.refuted
    unrefused_refuted h = go a refl
      where
        go : (b : Answer) → (derivation_call_of f i).answer ≡ b → (derivation_call_of f i).answer ≡ Answer.refuted
        go (refused k place) e = absurd (h k place e)
        go Answer.satisfiable e = absurd (never_satisfiable e)
        go Answer.refuted e = e

-- where it answers "refuted", what it leaves are the lines of our walk
pub record Derived (f : CallForm) (i : Input) (bytes : List ℕ) : Type 0 where
  pub walked : walk_of f i ≡ refutation (lines_in bytes)
  pub fits : Fits i.room (lines_in bytes)
  pub formed : bytes ≡ padded i.room (derivation_bytes (lines_in bytes))

module _ (f : CallForm) (laws : FormLaws f) where
  written-derived : (i : Input) (ls : List Line) → walk_of f i ≡ refutation ls → Fits i.room ls → Derived f i (padded i.room (derivation_bytes ls))
  written-derived i ls w g =
      let e = lines_padded i.room ls in
      record {
        walked = w ∙ ap refutation (sym e);
        fits = subst (Fits i.room) (sym e) g;
        formed = ap (λ (ms : List Line). padded i.room (derivation_bytes ms)) (sym e);
      }

  pub derived : (i : Input) → (derivation_call_of f i).answer ≡ Answer.refuted → Derived f i (derivation_call_of f i).lent
  derived i h =
      let (n, (ls, w, g)) = lines f laws i h in
      let e : derivation_call_of f i ≡ written i.room ls = derivation_of_lem f laws i n ∙ ap (derivation_at f laws i) w ∙ lines_fit i.room ls g in
      subst (Derived f i) (sym (ap (λ (o : Outcome). o.lent) e)) (written-derived i ls w g)
