-- Cycles of a function.
use Prim.Native.Nat.{ℕ, zero, suc, ◌+◌, ◌-◌, ◌≤◌, ◌<◌}
use native.Mathlib.Omega.{arith}
use native.Mathlib.Nat.{add_comm}
use mathlib.Core.Path.{◌≡◌, refl, sym, ap, ◌∙◌}
use Rattle.logic.specs.Heap.{iterate, Reaches}
use Rattle.theory.proofs.Basics.Iterate.{iterate-suc, iterate-add, reaches_refl, reaches_trans}
use Rattle.theory.proofs.Graph.Pigeonhole.{pigeonhole}

-- v lies on a cycle: f leads from what follows v back to v
abbrev pub OnCycle : (ℕ → ℕ) → ℕ → Type 0
OnCycle f v = Reaches f (f v) v

-- the first n + 1 iterates of v are numbers from 1 to n
abbrev pub Within : (ℕ → ℕ) → ℕ → ℕ → Type 0
Within f n v = (i : ℕ) → i ≤ n → (1 ≤ iterate f i v) × (iterate f i v ≤ n)

module _ (f : ℕ → ℕ) where
  pub iterate_comm : (j k v : ℕ) → iterate f j (iterate f k v) ≡ iterate f k (iterate f j v)
  iterate_comm j k v = sym (iterate-add f k j v) ∙ ap (λ (m : ℕ). iterate f m v) (add_comm k j) ∙ iterate-add f j k v

  cycle_next : (v : ℕ) → OnCycle f v → OnCycle f (f v)
  unfolding Reaches iterate
  cycle_next v c = (c.0, iterate-suc f c.0 (f v) ∙ ap f c.1)

  -- what a term of a cycle leads to lies on the cycle and leads back
  cycle_iterate : (k v : ℕ) → OnCycle f v → OnCycle f (iterate f k v) × Reaches f (iterate f k v) v
  unfolding iterate
  cycle_iterate zero v c = (c, reaches_refl f v)
  cycle_iterate (suc k) v c = let r = cycle_iterate k (f v) (cycle_next v c) in (r.0, reaches_trans f (iterate f k (f v)) (f v) v r.1 c)

  pub cycle_along : (v w : ℕ) → OnCycle f v → Reaches f v w → OnCycle f w
  unfolding Reaches
  cycle_along v w c r = rw (← r.1) (cycle_iterate r.0 v c).0

  pub cycle_back : (v w : ℕ) → OnCycle f v → Reaches f v w → Reaches f w v
  unfolding Reaches
  cycle_back v w c r = rw (← r.1) (cycle_iterate r.0 v c).1

  -- following f within 1 to n meets a cycle of at most n terms
  pub meets_cycle : (n v : ℕ) → Within f n v → (i : ℕ) × (d : ℕ) × (i ≤ n) × (d < n) × (iterate f (suc d) (iterate f i v) ≡ iterate f i v)
  meets_cycle n v h =
      let (i, j, l, m, e) = pigeonhole n (λ i. iterate f i v - 1) (λ i l. let r = h i l in omega arith) in
      let d : ℕ = j - suc i in
      let a = h i (omega arith) in
      let b = h j m in
      let same : iterate f i v ≡ iterate f j v = omega arith in
      let sum : i + suc d ≡ j = omega arith in
      (i, d, omega arith, omega arith, sym (iterate-add f i (suc d) v) ∙ ap (λ (m : ℕ). iterate f m v) sum ∙ sym same)

  pub meets_on_cycle : (n v : ℕ) → Within f n v → (w : ℕ) × (1 ≤ w) × Reaches f v w × OnCycle f w
  unfolding Reaches iterate
  meets_on_cycle n v h = let r = meets_cycle n v h in (iterate f r.0 v, (h r.0 r.2).0, (r.0, refl), (r.1, r.4))

  -- a cycle within 1 to n returns after at most n steps
  pub cycle_short : (n v : ℕ) → Within f n v → OnCycle f v → (d : ℕ) × (d < n) × (iterate f (suc d) v ≡ v)
  unfolding Reaches
  cycle_short n v h c =
      let (i, d, l, m, e) = meets_cycle n v h in
      let (k, b) = (cycle_iterate i v c).1 in
      (d, m, ap (iterate f (suc d)) (sym b) ∙ iterate_comm (suc d) k (iterate f i v) ∙ ap (iterate f k) e ∙ b)
