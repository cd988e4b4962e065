-- The tests read the links of the nodes, and the nodes of the terms up to t: nothing else.
use Prim.Native.Nat.{ℕ, zero, suc, ◌+◌, ◌-◌, ◌≤◌}
use native.Mathlib.Omega.{arith}
use mathlib.Core.Path.{◌≡◌, refl, ap, ap₂, ◌∙◌}
use mathlib.Core.Logic.{⊎_elim}
use mathlib.Core.Bool.{Bool, not, cond, ◌&&◌, ◌||◌}
use lib.Dec.{eqb, ltb, leb}
use Rattle.logic.specs.Search.{◌or◌, from}
use Rattle.logic.specs.Query.{Literal, names_nil}
use Rattle.theory.proofs.Basics.Search.{bool_cases, from-mem, any_alike}
use Rattle.between.specs.Meaning.{BetweenLiteral, BetweenQuery}
use Rattle.between.proofs.SmallModel.{AcceptedBetween}
use Rattle.between_search.specs.Tests.{steps, agrees, due_pair, due_triple, pair_breaks, triple_breaks, nil_breaks, opposed, field_breaks, is_fresh, used, breaks}
use Rattle.between_search.proofs.StepCounts.{steps_alike}
use Rattle.between_search.proofs.Due.{due_left, due_right, due_from, due_middle, due_to}

-- how many nodes are named
pub used_alike : (node node' : ℕ → ℕ) (t : ℕ) → ((u : ℕ) → 1 ≤ u → u ≤ t → node u ≡ node' u) → used node t ≡ used node' t
unfolding used is_fresh
used_alike node node' zero h = refl
used_alike node node' (suc t) h =
    ap₂ (λ (a : ℕ) (b : Bool). a + cond (not b) 1 0) (used_alike node node' t (λ u l k. h u l (omega arith)))
    (any_alike _ _ (from (suc t - 1) 1) (λ u m. let r = from-mem (suc t - 1) 1 u m in ap₂ (λ (a b : ℕ). eqb a b) (h u r.0 (omega (arith, r.1))) (h (suc t) (omega arith) (omega arith))))

module _ (q : BetweenQuery) (ok : AcceptedBetween q) (m : ℕ) (f g : ℕ → ℕ) (inside : (v : ℕ) → (1 ≤ v) × (v ≤ m) → (1 ≤ f v) × (f v ≤ m))
    (same : (v : ℕ) → (1 ≤ v) × (v ≤ m) → f v ≡ g v) (t : ℕ) (one : 1 ≤ t) (node node' : ℕ → ℕ) (agree : (u : ℕ) → 1 ≤ u → u ≤ t → node u ≡ node' u)
    (named : (u : ℕ) → 1 ≤ u → u ≤ t → (1 ≤ node u) × (node u ≤ m)) where
  step_alike : (a b : ℕ) → 1 ≤ a → a ≤ t → 1 ≤ b → b ≤ t → steps f (node a) (node b) ≡ steps g (node' a) (node' b)
  step_alike a b l h k i = steps_alike f g m inside same (node a) (node b) (named a l h) ∙ ap₂ (λ (x y : ℕ). steps g x y) (agree a l h) (agree b k i)

  pair_alike : (most : ℕ) (l : Literal) → 1 ≤ l.left → 1 ≤ l.right → pair_breaks f node most t l ≡ pair_breaks g node' most t l
  unfolding pair_breaks
  pair_alike most l a b =
      ⊎_elim
      (λ d. ap (λ (x : ℕ). due_pair l.left l.right t && not (agrees l.plain (leb x most)))
      (step_alike l.left l.right a (due_left l.left l.right t d) b (due_right l.left l.right t d)))
      (λ d. rw d)
      (bool_cases (due_pair l.left l.right t))

  triple_alike : (l : BetweenLiteral) → 1 ≤ l.from → 1 ≤ l.middle → 1 ≤ l.to → triple_breaks f node t l ≡ triple_breaks g node' t l
  unfolding triple_breaks
  triple_alike l a b c =
      ⊎_elim
      (λ d.
      let x = due_from l.from l.middle l.to t d in
      ap₂ (λ (y z : ℕ). due_triple l.from l.middle l.to t && not (agrees l.plain (leb y z && leb z 5)))
      (step_alike l.from l.middle a x b (due_middle l.from l.middle l.to t d)) (step_alike l.from l.to a x c (due_to l.from l.middle l.to t d)))
      (λ d. rw d)
      (bool_cases (due_triple l.from l.middle l.to t))

  at_t : node t ≡ node' t
  at_t = agree t one (omega arith)

  nil_alike : nil_breaks q.base.entries f node t ≡ nil_breaks q.base.entries g node' t
  unfolding nil_breaks
  nil_alike =
      ap₂ (λ (a b : Bool). names_nil q.base.entries t && (not a || b))
      (ap₂ (λ (x y : ℕ). eqb x y) (same (node t) (named t one (omega arith)) ∙ ap g at_t) at_t)
      (any_alike _ _ (from t 1) (λ u k. let r = from-mem t 1 u k in ap₂ (λ (x y : ℕ). names_nil q.base.entries u && not (eqb x y)) (agree u r.0 (omega (arith, r.1))) at_t))

  field_alike : field_breaks q.base.fields node t ≡ field_breaks q.base.fields node' t
  unfolding field_breaks
  field_alike =
      any_alike _ _ (from t 1) (λ u k. let r = from-mem t 1 u k in
      ap₂ (λ (x y : ℕ). eqb x y && (opposed q.base.fields u t || opposed q.base.fields t u)) (agree u r.0 (omega (arith, r.1))) at_t)

  pub breaks_alike : (n : ℕ) → breaks q m f node n t ≡ breaks q m g node' n t
  unfolding breaks
  breaks_alike n =
      ap₂ (λ (a b : Bool). a or b) (ap (λ (x : ℕ). ltb (x + (n - t)) m) (used_alike node node' t agree))
      (ap₂ (λ (a b : Bool). a or b) nil_alike
      (ap₂ (λ (a b : Bool). a or b) field_alike
      (ap₂ (λ (a b : Bool). a or b) (any_alike _ _ q.base.equalities (λ l k. let r = ok.base.equal_terms l k in pair_alike 0 l r.0.0 r.1.0))
      (ap₂ (λ (a b : Bool). a or b) (any_alike _ _ q.base.reachability (λ l k. let r = ok.base.reach_terms l k in pair_alike 5 l r.0.0 r.1.0))
      (any_alike _ _ q.betweens (λ l k. let r = ok.between_terms l k in triple_alike l r.0.0 r.1.0 r.2.0))))))
