-- A function on renamed numbers reaches the renamed of what it reached.
use Prim.Native.Nat.{ℕ, zero, suc}
use mathlib.Core.Path.{◌≡◌, refl, sym, ap, ◌∙◌}
use mathlib.Core.Logic.{◌↔◌}
use Rattle.logic.specs.Heap.{iterate, Reaches}

-- f keeps to the numbers in In, and g does to the names of these what f does to them
module _ (f g name : ℕ → ℕ) (In : ℕ → Type 0) (closed : (v : ℕ) → In v → In (f v)) (commutes : (v : ℕ) → In v → g (name v) ≡ name (f v)) where
  iterate_in : (k v : ℕ) → In v → In (iterate f k v)
  unfolding iterate
  iterate_in zero v m = m
  iterate_in (suc k) v m = iterate_in k (f v) (closed v m)

  iterate-name : (k v : ℕ) → In v → iterate g k (name v) ≡ name (iterate f k v)
  unfolding iterate
  iterate-name zero v m = refl
  iterate-name (suc k) v m = ap (iterate g k) (commutes v m) ∙ iterate-name k (f v) (closed v m)

  pub reaches_name : ((v w : ℕ) → In v → In w → name v ≡ name w → v ≡ w) → (v w : ℕ) → In v → In w → Reaches f v w ↔ Reaches g (name v) (name w)
  unfolding Reaches
  reaches_name injective v w m l = (
    λ r. (r.0, iterate-name r.0 v m ∙ ap name r.1),
    λ r. (r.0, injective (iterate f r.0 v) w (iterate_in r.0 v m) l (sym (iterate-name r.0 v m) ∙ r.1)),
  )
