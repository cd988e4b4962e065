-- A verdict that a finished walk gives is right, whether the walk is ours or a hand's.
use Prim.Native.Nat.{ℕ, ◌≤◌}
use native.Mathlib.Omega.{arith}
use mathlib.Core.Path.{◌≡◌, refl, sym, subst}
use mathlib.Core.Bool.{Bool, true, false, not, cond}
use mathlib.Core.List.{List, [], ◌++◌}
use mathlib.Core.Option.{none, some}
use Rattle.logic.specs.Search.{all, any, is_some}
use Rattle.logic.specs.Query.{Query, is_order, term_count}
use Rattle.logic.specs.Heap.{Satisfiable}
use Rattle.logic.specs.Facts.{Facts, Line, live_terms, clash}
use Rattle.logic.specs.Rules.{Rule, rules, choose}
use Rattle.logic.specs.Walk.{Ending, refutation, saturation, Verdict, Pick, order_of, our_walk, our_verdict, is_clashed, is_saturated, hand_row, hand_verdict}
use Rattle.logic.specs.Shown.{report, heap_in}
use Rattle.logic.specs.Demands.{Right}
use Rattle.theory.proofs.Basics.Search.{none-some, and_left, and_right, not-true, is_some-false, any-true}
use Rattle.theory.proofs.Query.Tied.{InLinks, Accepted}
use Rattle.theory.proofs.Paths.Invariant.{Invariant, start_invariant, branch_invariant}
use Rattle.theory.proofs.Walks.Order.{HoldsAll, rules_full, order_full}
use Rattle.theory.proofs.Walks.Derives.{row-all}
use Rattle.theory.proofs.Walks.Limit.{our_refutes, our_saturation}
use Rattle.theory.proofs.Soundness.Refuted.{derivation_sound, hand_refuted}
use Rattle.theory.proofs.Completeness.Saturated.{Saturated}
use Rattle.theory.proofs.Completeness.Saturation.{saturated}
use Rattle.theory.proofs.Completeness.Completed.{Completed}
use Rattle.theory.proofs.Completeness.Completion.{completed_in, completed_known, completed_reach}
use Rattle.theory.proofs.Completeness.ShownHeap.{shown}

-- the facts of a path that is saturated: the invariant, no clash, no rule
pub record Model (q : Query) (s : Facts) : Type 0 where
  pub invariant : Invariant q s
  pub no_clash : clash q s ≡ none
  pub no_rule : (i : ℕ) → InLinks q i → Saturated (term_count q) (live_terms (term_count q) s) (s.graph i)

module _ (q : Query) (ok : Accepted q) where
  model : (order : List Rule) → HoldsAll order → (s : Facts) → Invariant q s → clash q s ≡ none → choose (term_count q) order s ≡ none → Model q s
  model order full s i c h = record {
    invariant = i;
    no_clash = c;
    no_rule = λ j k. saturated (term_count q) s order full i.sane h j (subst (λ (l : ℕ). (1 ≤ j) × (j ≤ l)) (sym i.tied.same_links) k);
  }

  pub completed : (s : Facts) → Model q s → (i : ℕ) → InLinks q i → Completed (term_count q) (live_terms (term_count q) s) (s.graph i)
  completed s m i k =
      record {
        completed_in = completed_in (term_count q) (live_terms (term_count q) s) (s.graph i) (m.no_rule i k);
        completed_known = completed_known (term_count q) (live_terms (term_count q) s) (s.graph i) (m.no_rule i k);
        completed_reach = completed_reach (term_count q) (live_terms (term_count q) s) (s.graph i) (m.no_rule i k);
      }

  -- our walk: where it is saturated the path found is a model; where it refutes there is no heap
  pub our_model : (order : List ℕ) → is_order order ≡ true → (s : Facts) → our_walk order q ≡ saturation s → Model q s
  our_model order o s h =
      let e = our_saturation q ok (Invariant q) (λ s s' m i c a k. branch_invariant q s m i a s' k) order s (start_invariant q ok) h in
      model (order_of order) (order_full order o) s e.0 e.1 e.2

  pub our_refuted : (order : List ℕ) (ls : List Line) → our_walk order q ≡ refutation ls → Satisfiable q → ⊥
  our_refuted order ls h = derivation_sound q ok (our_refutes q ok order ls h)

  -- the hand's walk: a path of its row that is saturated is a model
  saturated_model : (s : Facts) → Invariant q s → is_saturated q s ≡ true → Model q s
  unfolding is_saturated is_clashed
  saturated_model s i h =
      model rules rules_full s i
      (is_some-false (clash q s) (not-true (and_left (not (is_some (clash q s))) (not (is_some (choose (term_count q) rules s))) h)))
      (is_some-false (choose (term_count q) rules s) (not-true (and_right (not (is_some (clash q s))) (not (is_some (choose (term_count q) rules s))) h)))

  pub hand_model : (picks : List Pick) → hand_verdict q (hand_row q picks) ≡ some Verdict.satisfiable → (s : Facts) × Model q s
  unfolding hand_verdict
  hand_model picks h = go (all (is_clashed q) (hand_row q picks)) (any (is_saturated q) (hand_row q picks)) refl h
    where
      found : any (is_saturated q) (hand_row q picks) ≡ true → (s : Facts) × Model q s
      found e =
          let r = any-true (is_saturated q) (hand_row q picks) e in
          (r.0, saturated_model r.0 (row-all q (Invariant q) (λ s s' m i c a k. branch_invariant q s m i a s' k) (start_invariant q ok) picks r.0 r.1) r.2)

      go : (b c : Bool) → any (is_saturated q) (hand_row q picks) ≡ c → cond b (some Verdict.refuted) (cond c (some Verdict.satisfiable) none) ≡ some Verdict.satisfiable → (s : Facts) × Model q s
      go true c e h = let z : ◌≡◌ {A = ℕ} 0 1 = cc in absurd (omega arith)
      go false true e h = found e
      go false false e h = absurd (none-some h)

  -- a model has the heap shown, which meets the query
  pub model_satisfiable : (s : Facts) → Model q s → Satisfiable q
  model_satisfiable s m =
      let sh = shown q s ok m.invariant.tied (completed s m) m.no_clash [] in
      (heap_in q.links (report q s ++ []), sh.meets)

-- a verdict with its reason is right
sat_not-refuted : Verdict.satisfiable ≡ Verdict.refuted → ⊥
sat_not-refuted e = let z : ◌≡◌ {A = ℕ} 0 1 = cc in omega arith

pub right_satisfiable : (q : Query) → Satisfiable q → Right q Verdict.satisfiable
right_satisfiable q h =
    record {
      satisfiable_exactly = (λ e. h, λ k. refl);
      refuted_exactly = (λ e. absurd (sat_not-refuted e), λ k. absurd (k h));
    }

pub right_refuted : (q : Query) → (Satisfiable q → ⊥) → Right q Verdict.refuted
right_refuted q h =
    record {
      satisfiable_exactly = (λ e. absurd (sat_not-refuted (sym e)), λ k. absurd (h k));
      refuted_exactly = (λ e. h, λ k. refl);
    }

-- there is one right verdict
pub right_unique : (q : Query) (v w : Verdict) → Right q v → Right q w → v ≡ w
right_unique q Verdict.satisfiable w r r' = sym (r'.satisfiable_exactly.1 (r.satisfiable_exactly.0 refl))
right_unique q Verdict.refuted w r r' = sym (r'.refuted_exactly.1 (r.refuted_exactly.0 refl))

module _ (q : Query) (ok : Accepted q) where
  pub our_right : (order : List ℕ) → is_order order ≡ true → Right q (our_verdict (our_walk order q))
  unfolding our_verdict
  our_right order o = go (our_walk order q) refl
    where
      go : (e : Ending) → our_walk order q ≡ e → Right q (our_verdict e)
      go (refutation ls) e = right_refuted q (our_refuted q ok order ls e)
      go (saturation s) e = right_satisfiable q (model_satisfiable q ok s (our_model q ok order o s e))

  pub hand_right : (picks : List Pick) (w : Verdict) → hand_verdict q (hand_row q picks) ≡ some w → Right q w
  hand_right picks Verdict.satisfiable h = let m = hand_model q ok picks h in right_satisfiable q (model_satisfiable q ok m.0 m.1)
  hand_right picks Verdict.refuted h = right_refuted q (hand_refuted q ok picks h)
