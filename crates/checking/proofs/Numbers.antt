-- The numbers of a rule that applies are terms, or the steps of a cycle: at most as many as there are terms.
use Prim.Native.Nat.{ℕ, zero, suc, ◌≤◌, ◌<◌}
use native.Mathlib.Omega.{arith}
use mathlib.Core.Path.{◌≡◌, refl, ap, ◌∙◌}
use mathlib.Core.Logic.{⊎_elim}
use mathlib.Core.Bool.{Bool, true, false, cond, false≢true}
use mathlib.Core.List.{Memᴰ}
use lib.Dec.{eqb}
use Rattle.logic.specs.Search.{◌and◌}
use Rattle.logic.specs.Heap.{iterate, Reaches}
use Rattle.logic.specs.Facts.{Graph, Facts, live}
use Rattle.logic.specs.Rules.{Rule, REFLEX, TRANS1, TRANS2, FUNC, CYCLE, SCC, TOTAL, SHARE, triple, move, next, returns, round, conditions, applies}
use Rattle.theory.proofs.Basics.Search.{and_left, and_right, true-false}
use Rattle.theory.proofs.Basics.Compare.{eqb-true, eqb_intro, le_cases}
use Rattle.theory.proofs.Graph.Cycles.{Within, cycle_short}
use Rattle.theory.proofs.Paths.Ranged.{InRange, live_range}
use Rattle.theory.proofs.Paths.Applies.{applies_met}
use Rattle.theory.proofs.Paths.Kept.{Sane}
use Rattle.theory.proofs.Paths.Round.{returns_cases, round_all}

-- A cycle of links

module _ (n : ℕ) (g : Graph) (x : ℕ) where
  returns_there : (k c : ℕ) → returns n g x k c ≡ true → iterate (next n g) k c ≡ x
  unfolding returns iterate
  returns_there zero c h = absurd (false≢true h)
  returns_there (suc k) c h = ⊎_elim (λ e. ap (λ (j : ℕ). iterate (next n g) j (next n g c)) e.1 ∙ e.0) (returns_there k (next n g c)) (returns_cases n g x k c h)

  -- links from c lead to x after none of the steps from 1 up to k
  abbrev NotBefore : ℕ → ℕ → Type 0
  NotBefore k c = (j : ℕ) → suc j < k → iterate (next n g) (suc j) c ≡ x → ⊥

  not_before : (k c : ℕ) → returns n g x k c ≡ true → NotBefore k c
  unfolding returns iterate
  not_before zero c h j l e = omega arith
  not_before (suc k) c h j l e = go (eqb (next n g c) x) refl h (not_before k (next n g c)) j l e
    where
      rest : Bool
      rest = returns n g x k (next n g c)

      go : (b : Bool) → eqb (next n g c) x ≡ b → cond b (eqb k 0) rest ≡ true → (rest ≡ true → NotBefore k (next n g c)) → NotBefore (suc k) c
      go true f h ih j l e = omega (arith, eqb-true k 0 h)
      go false f h ih zero l e = true-false (eqb_intro e) f
      go false f h ih (suc j) l e = ih h j (omega arith) e

  in_round : (k c i : ℕ) → i < k → Memᴰ (iterate (next n g) i c) (round n g k c)
  unfolding round iterate
  in_round zero c i l = absurd (omega arith)
  in_round (suc k) c zero l = Memᴰ.head refl
  in_round (suc k) c (suc i) l = Memᴰ.tail (in_round k (next n g c) i (omega arith))

  cycle_steps : InRange n x → ((a b : ℕ) → g.link a b ≡ true → InRange n a × InRange n b) → (k : ℕ) → returns n g x k x ≡ true → k ≤ n
  unfolding Reaches returns iterate
  cycle_steps r linked zero h = omega arith
  cycle_steps r linked (suc k) h =
      ⊎_elim (λ l. l)
      (λ l.
      let along : (u : ℕ) → Memᴰ u (round n g (suc k) x) → InRange n u =
      round_all n g x r.0 (λ a b e. (linked a b e).0.0) (InRange n) (λ a b e. (linked a b e).1) (suc k) x h r in
      let within : Within (next n g) n x = λ i m. along (iterate (next n g) i x) (in_round (suc k) x i (omega arith)) in
      let (d, m, e) = cycle_short (next n g) n x within (k, returns_there (suc k) x h) in
      absurd (not_before (suc k) x h d (omega arith) e))
      (le_cases (suc k) n)

-- The numbers of a move

module _ (n : ℕ) (s : Facts) (sane : Sane n s) (i : ℕ) where
  abbrev pub Numbers : ℕ → ℕ → ℕ → Type 0
  Numbers x y z = (x ≤ n) × (y ≤ n) × (z ≤ n)

  abbrev G : Graph
  G = s.graph i

  linked : (a b : ℕ) → G.link a b ≡ true → InRange n a × InRange n b
  linked a b h = let l = sane.ranged.link_live i a b h in (live_range n s a l.0, live_range n s b l.1)

  reached : (a b : ℕ) → G.reach a b ≡ true → InRange n a × InRange n b
  reached a b h = let l = sane.ranged.reach_live i a b h in (live_range n s a l.0, live_range n s b l.1)

  numbers : (r : Rule) (x y z : ℕ) → conditions n (live n s) s.graph (move i r (triple x y z)) ≡ true → Numbers x y z
  unfolding conditions
  numbers REFLEX x y z h =
      let l = and_left (live n s x and eqb y 0) (eqb z 0) h in
      let a = live_range n s x (and_left (live n s x) (eqb y 0) l) in
      let b = eqb-true y 0 (and_right (live n s x) (eqb y 0) l) in
      let c = eqb-true z 0 (and_right (live n s x and eqb y 0) (eqb z 0) h) in
      (a.1, omega arith, omega arith)
  numbers TRANS1 x y z h =
      let a = linked x y (and_left (G.link x y) (eqb z 0) h) in
      let c = eqb-true z 0 (and_right (G.link x y) (eqb z 0) h) in
      (a.0.1, a.1.1, omega arith)
  numbers TRANS2 x y z h =
      let a = reached x y (and_left (G.reach x y) (G.reach y z) h) in
      let b = reached y z (and_right (G.reach x y) (G.reach y z) h) in
      (a.0.1, a.1.1, b.1.1)
  numbers FUNC x y z h =
      let a = linked x y (and_left (G.link x y) (G.reach x z) h) in
      let b = reached x z (and_right (G.link x y) (G.reach x z) h) in
      (a.0.1, a.1.1, b.1.1)
  numbers CYCLE x y z h =
      let a = reached x y (and_right (returns n G x z x) (G.reach x y) h) in
      (a.0.1, a.1.1, cycle_steps n G x a.0 linked z (and_left (returns n G x z x) (G.reach x y) h))
  numbers SCC x y z h =
      let l = and_left (G.reach x y and G.reach y x) (G.reach x z) h in
      let a = reached x y (and_left (G.reach x y) (G.reach y x) l) in
      let b = reached x z (and_right (G.reach x y and G.reach y x) (G.reach x z) h) in
      (a.0.1, a.1.1, b.1.1)
  numbers TOTAL x y z h =
      let a = reached x y (and_left (G.reach x y) (G.reach x z) h) in
      let b = reached x z (and_right (G.reach x y) (G.reach x z) h) in
      (a.0.1, a.1.1, b.1.1)
  numbers SHARE x y z h =
      let l = and_left (G.link x z and G.link y z and G.reach x y) (G.reach y x) h in
      let m = and_left (G.link x z and G.link y z) (G.reach x y) l in
      let a = linked x z (and_left (G.link x z) (G.link y z) m) in
      let b = linked y z (and_right (G.link x z) (G.link y z) m) in
      (a.0.1, b.0.1, a.1.1)

  pub move-numbers : (r : Rule) (x y z : ℕ) → applies n s (move i r (triple x y z)) ≡ true → Numbers x y z
  move-numbers r x y z h = numbers r x y z (applies_met n s (move i r (triple x y z)) h)
