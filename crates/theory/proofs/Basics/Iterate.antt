-- A function applied again and again, and what it reaches.
use Prim.Native.Nat.{ℕ, zero, suc, ◌+◌}
use native.Mathlib.Nat.{zero-add, suc-add}
use mathlib.Core.Path.{◌≡◌, refl, ap, ◌∙◌}
use Rattle.logic.specs.Heap.{iterate, Reaches}

module _ (f : ℕ → ℕ) where
  pub iterate-suc : (k v : ℕ) → iterate f (suc k) v ≡ f (iterate f k v)
  unfolding iterate
  iterate-suc zero v = refl
  iterate-suc (suc k) v = iterate-suc k (f v)

  pub iterate-add : (j k v : ℕ) → iterate f (j + k) v ≡ iterate f k (iterate f j v)
  unfolding iterate
  iterate-add zero k v = ap (λ (m : ℕ). iterate f m v) (zero-add k)
  iterate-add (suc j) k v = ap (λ (m : ℕ). iterate f m v) (suc-add j k) ∙ iterate-add j k (f v)

  pub reaches_refl : (v : ℕ) → Reaches f v v
  unfolding Reaches iterate
  reaches_refl v = (0, refl)

  pub reaches_step : (v w : ℕ) → Reaches f (f v) w → Reaches f v w
  unfolding Reaches iterate
  reaches_step v w r = (suc r.0, r.1)

  pub reaches_next : (v : ℕ) → Reaches f v (f v)
  unfolding Reaches iterate
  reaches_next v = (1, refl)

  pub reaches_trans : (u v w : ℕ) → Reaches f u v → Reaches f v w → Reaches f u w
  unfolding Reaches
  reaches_trans u v w r s = (r.0 + s.0, iterate-add r.0 s.0 u ∙ ap (iterate f s.0) r.1 ∙ s.1)
