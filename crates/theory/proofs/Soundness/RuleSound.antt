-- The eight rules are sound: where the facts are true and the conditions of a rule are held, one of its alternatives is true.
use Prim.Native.Nat.{ℕ, ◌≤◌}
use mathlib.Core.Path.{◌≡◌, refl, sym, ap, ◌∙◌, subst}
use mathlib.Core.Logic.{◌⊎◌, ⊎_elim, inl, inr}
use mathlib.Core.Bool.{Bool, true}
use mathlib.Core.List.Memᴰ
use mathlib.Core.List.{[], ◌∷◌, map, Memᴰ}
use Rattle.logic.specs.Heap.{Reaches}
use Rattle.logic.specs.Facts.{Graph}
use Rattle.logic.specs.Rules.{Rule, REFLEX, TRANS1, TRANS2, FUNC, CYCLE, SCC, TOTAL, SHARE, Triple, triple, Move, move, Fact, equal, next, returns, round, conditions, alternatives}
use Rattle.theory.proofs.Basics.Search.{and_left, and_right, map_intro}
use Rattle.theory.proofs.Basics.Iterate.{reaches_refl, reaches_next, reaches_trans}
use Rattle.theory.proofs.Graph.Orbit.{reaches_keeps, reaches_cases, reaches_total, reaches_back, cycle_injective}
use Rattle.theory.proofs.Soundness.Truth.{between, Linked, Reached, TrueGraph, True, SomeTrue}
use Rattle.theory.proofs.Paths.Round.{next-link, round-head, round-next}

module _ (F : ℕ → ℕ → ℕ) (val : ℕ → ℕ) where
  only : {c : Fact} → True F val c → SomeTrue F val (c ∷ [])
  only {c} t = (c, Memᴰ.head refl, t)

  either : {A B : Type 0} {c d : Fact} → (A → True F val c) → (B → True F val d) → A ⊎ B → SomeTrue F val (c ∷ d ∷ [])
  either {c} p r (inl a) = (c, Memᴰ.head refl, p a)
  either {d} p r (inr b) = (d, Memᴰ.tail (Memᴰ.head refl), r b)

-- the facts of link i, which are true of f
module _ (F : ℕ → ℕ → ℕ) (val : ℕ → ℕ) (n i : ℕ) (graph : ℕ → Graph) (holds : TrueGraph (F i) val (graph i)) where
  abbrev f : ℕ → ℕ
  f = F i

  abbrev g : Graph
  g = graph i

  -- f goes round the values of the terms round: whatever is reached from x is one of them
  cycle_sound : (x y k : ℕ) → returns n g x k x ≡ true → Reached f val x y → SomeTrue F val (map (equal y) (round n g k x))
  cycle_sound x y k h r =
      let p = reaches_keeps f On step (val x) (val y) r.stands (x, round-head n g x k x h, refl) in
      (equal y p.0, map_intro (equal y) p.0 p.1, between r.right_term (linked p.0 p.1).left_term (sym p.2))
    where
      On : ℕ → Type 0
      On v = (c : ℕ) × Memᴰ c (round n g k x) × (val c ≡ v)

      on : (c : ℕ) → Memᴰ c (round n g k x) → (1 ≤ next n g c) × ((next n g c ≡ x) ⊎ Memᴰ (next n g c) (round n g k x))
      on c m = round-next n g x r.left_term (λ a b l. (holds.link_true a b l).left_term) k x c h m

      linked : (c : ℕ) → Memᴰ c (round n g k x) → Linked f val c (next n g c)
      linked c m = holds.link_true c (next n g c) (next-link n g c (on c m).0)

      step : (v : ℕ) → On v → On (f v)
      step v (c, m, e) = (next n g c, ⊎_elim (λ q. Memᴰ.cast q (round-head n g x k x h)) (λ i. i) (on c m).1, sym (linked c m).stands ∙ ap f e)

  module _ (alive : ℕ → Bool) (alive_term : (x : ℕ) → alive x ≡ true → 1 ≤ x) where
    pub link_sound : (r : Rule) (t : Triple) → conditions n alive graph (move i r t) ≡ true → SomeTrue F val (alternatives n graph (move i r t))
    unfolding conditions alternatives
    link_sound REFLEX (triple x y z) h =
        let l = alive_term x (and_left _ _ (and_left _ _ h)) in
        only F val (between l l (reaches_refl f (val x)))
    link_sound TRANS1 (triple x y z) h =
        let l = holds.link_true x y (and_left _ _ h) in
        only F val (between l.left_term l.right_term (subst (Reaches f (val x)) l.stands (reaches_next f (val x))))
    link_sound TRANS2 (triple x y z) h =
        let r = holds.reach_true x y (and_left _ _ h) in
        let s = holds.reach_true y z (and_right _ _ h) in
        only F val (between r.left_term s.right_term (reaches_trans f (val x) (val y) (val z) r.stands s.stands))
    link_sound FUNC (triple x y z) h =
        let l = holds.link_true x y (and_left _ _ h) in
        let r = holds.reach_true x z (and_right _ _ h) in
        either F val
        (between l.left_term r.right_term)
        (λ t. between l.right_term r.right_term (subst (λ (v : ℕ). Reaches f v (val z)) l.stands t))
        (reaches_cases f (val x) (val z) r.stands)
    link_sound CYCLE (triple x y k) h = cycle_sound x y k (and_left _ _ h) (holds.reach_true x y (and_right _ _ h))
    link_sound SCC (triple x y z) h =
        let r = holds.reach_true x y (and_left _ _ (and_left _ _ h)) in
        let s = holds.reach_true y x (and_right _ _ (and_left _ _ h)) in
        let t = holds.reach_true x z (and_right _ _ h) in
        either F val
        (between r.left_term r.right_term)
        (λ u. between t.right_term r.left_term (reaches_back f (val x) (val z) (reaches_trans f (f (val x)) (val y) (val x) u s.stands) t.stands))
        (reaches_cases f (val x) (val y) r.stands)
    link_sound TOTAL (triple x y z) h =
        let r = holds.reach_true x y (and_left _ _ h) in
        let s = holds.reach_true x z (and_right _ _ h) in
        either F val
        (between r.right_term s.right_term)
        (between s.right_term r.right_term)
        (reaches_total f (val x) (val y) (val z) r.stands s.stands)
    link_sound SHARE (triple x y z) h =
        let k = holds.link_true x z (and_left _ _ (and_left _ _ (and_left _ _ h))) in
        let l = holds.link_true y z (and_right _ _ (and_left _ _ (and_left _ _ h))) in
        let r = holds.reach_true x y (and_right _ _ (and_left _ _ h)) in
        let s = holds.reach_true y x (and_right _ _ h) in
        only F val (between r.left_term r.right_term (cycle_injective f (val x) (val y) (k.stands ∙ sym l.stands) r.stands s.stands))

-- every rule is, about whichever link
pub rule_sound : (F : ℕ → ℕ → ℕ) (val : ℕ → ℕ) (n : ℕ) (graph : ℕ → Graph) → ((i : ℕ) → TrueGraph (F i) val (graph i)) → (alive : ℕ → Bool) →
    ((x : ℕ) → alive x ≡ true → 1 ≤ x) → (m : Move) → conditions n alive graph m ≡ true → SomeTrue F val (alternatives n graph m)
rule_sound F val n graph holds alive alive_term (move i r t) h = link_sound F val n i graph (holds i) alive alive_term r t h
