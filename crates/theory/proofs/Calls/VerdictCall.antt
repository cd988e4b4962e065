-- What the verdict call does, by cases.
use Prim.Native.Nat.{ℕ, ◌*◌, ◌≤◌}
use native.Mathlib.Omega.{arith}
use mathlib.Core.Path.{◌≡◌, refl, sym, ap, subst}
use mathlib.Core.Bool.{true}
use mathlib.Core.List.{List, Memᴰ}
use lib.ListN.{length}
use Rattle.logic.specs.Query.{Query}
use Rattle.logic.specs.Facts.{Facts, Line}
use Rattle.logic.specs.Walk.{Ending, refutation, saturation}
use Rattle.logic.specs.Shown.{report}
use Rattle.logic.specs.Calls.{Input, CallForm, verdict_checks_of, Outcome, Answer, refused, accepts_by, padded, blank, verdict_of, verdict_call_of}
use Rattle.logic.specs.Demands.{NoneStands, numbers, walk_of, Refusals}
use Rattle.theory.proofs.Completeness.ShownHeap.{report-length}
use Rattle.theory.proofs.Calls.CheckingOrder.{first_numbered}
use Rattle.theory.proofs.Calls.CallLaws.{FormLaws, verdict_passed, padded-length, blank-length}
use Rattle.theory.proofs.Calls.Refusals.{Late, Lawful, CallCase, by_check, by_walk, call_case, call_clear, refusals, verdict_early, verdict_placed}

-- Answers of different kinds differ.
pub refused_satisfiable : {k place : ℕ} → Answer.satisfiable ≡ refused k place → ⊥
refused_satisfiable e = let z : ◌≡◌ {A = ℕ} 0 1 = cc in omega arith

pub refused_refuted : {k place : ℕ} → Answer.refuted ≡ refused k place → ⊥
refused_refuted e = let z : ◌≡◌ {A = ℕ} 0 1 = cc in omega arith

pub refuted-satisfiable : Answer.refuted ≡ Answer.satisfiable → ⊥
refuted-satisfiable e = let z : ◌≡◌ {A = ℕ} 0 1 = cc in omega arith

module _ (f : CallForm) (laws : FormLaws f) where
  -- what the walk's ending makes of the call
  abbrev pub verdict_at : Input → Ending → Outcome
  verdict_at i = verdict_of (f.decode i.query) i.room

  -- a report has room where check 9 does not stand
  pub fits : (query : List ℕ) (s : Facts) → accepts_by f query ≡ true → (room : ℕ) → f.room ≤ room → length (report (f.decode query) s) ≤ room
  fits query s a room r =
      let l = report-length (f.decode query) s (laws.accepted_query query a) in
      let e = ap (λ (k : ℕ). k * 16) (laws.same_links query) in
      omega (arith, l, e, laws.roomy, r)

  verdict_late : (i : Input) (w : Ending) (k place : ℕ) → (verdict_at i w).answer ≡ refused k place → Late i.room k place (verdict_at i w).lent
  unfolding verdict_of blank
  verdict_late i (refutation ls) k place h = absurd (refused_refuted h)
  verdict_late i (saturation s) k place h = absurd (refused_satisfiable h)

  verdict_whole : (i : Input) → NoneStands (verdict_checks_of f) i → (w : Ending) → length (verdict_at i w).lent ≡ i.room
  unfolding verdict_of
  verdict_whole i h (refutation ls) = blank-length i.room _
  verdict_whole i h (saturation s) =
      let p = verdict_passed f laws i h in
      let q : Query = f.decode i.query in
      padded-length i.room (report q s) (fits i.query s p.0.query i.room p.1)

  verdict_lawful : Lawful f (verdict_checks_of f) verdict_at
  unfolding verdict_of
  verdict_lawful =
      record {
        early = verdict_early f laws;
        placed = verdict_placed f laws;
        late = verdict_late;
        whole = λ i h. verdict_whole i h (walk_of f i);
      }

  pub verdict_refusals : Refusals (verdict_checks_of f) f.longest (verdict_call_of f)
  unfolding verdict_call_of
  verdict_refusals = refusals f (verdict_checks_of f) verdict_at verdict_lawful

  pub verdict_of_lem : (i : Input) → NoneStands (verdict_checks_of f) i → verdict_call_of f i ≡ verdict_at i (walk_of f i)
  unfolding verdict_call_of
  verdict_of_lem i h = call_clear f (verdict_checks_of f) (verdict_at i) i h

  pub data VerdictCase (i : Input) (o : Outcome) : Type 0 where
    by_refusal : (k place : ℕ) → Memᴰ k (numbers (verdict_checks_of f)) → o ≡ blank i.room (refused k place) → VerdictCase i o
    by_lines : (ls : List Line) → walk_of f i ≡ refutation ls → o ≡ blank i.room Answer.refuted → NoneStands (verdict_checks_of f) i → VerdictCase i o
    by_model : (s : Facts) → walk_of f i ≡ saturation s →
        o ≡ record { answer = Answer.satisfiable; lent = padded i.room (report (f.decode i.query) s) } → NoneStands (verdict_checks_of f) i → VerdictCase i o

  walked_case : (i : Input) (w : Ending) → walk_of f i ≡ w → NoneStands (verdict_checks_of f) i → VerdictCase i (verdict_at i w)
  unfolding verdict_of
  walked_case i (refutation ls) e h = by_lines ls e refl h
  walked_case i (saturation s) e h = by_model s e refl h

  of_case : (i : Input) (o : Outcome) → CallCase f (verdict_checks_of f) verdict_at i o → VerdictCase i o
  of_case i o (by_check k place c e) = by_refusal k place (first_numbered (verdict_checks_of f) i k place c) e
  of_case i o (by_walk n e) = subst (VerdictCase i) (sym e) (walked_case i (walk_of f i) refl n)

  pub verdict_case : (i : Input) → VerdictCase i (verdict_call_of f i)
  unfolding verdict_call_of
  verdict_case i = of_case i _ (call_case f (verdict_checks_of f) verdict_at verdict_lawful i)
