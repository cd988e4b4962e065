-- What a function reaches from a value, and when it comes back.
use Prim.Native.Nat.{ℕ, zero, suc}
use mathlib.Core.Path.{◌≡◌, sym, ap, ◌∙◌, subst}
use mathlib.Core.Logic.{◌⊎◌, ⊎_elim, inl, inr}
use Rattle.logic.specs.Heap.{iterate, Reaches}
use Rattle.theory.proofs.Basics.Iterate.{iterate-suc, reaches_refl}

module _ (f : ℕ → ℕ) where
  -- what f keeps holds of all that is reached
  pub reaches_keeps : (P : ℕ → Type 0) → ((v : ℕ) → P v → P (f v)) → (v w : ℕ) → Reaches f v w → P v → P w
  unfolding Reaches iterate
  reaches_keeps P keeps v w r p = subst P r.1 (go r.0 v p)
    where
      go : (k v : ℕ) → P v → P (iterate f k v)
      go zero v p = p
      go (suc k) v p = go k (f v) (keeps v p)

  -- a value reaches itself, or f of it reaches on
  pub reaches_cases : (v w : ℕ) → Reaches f v w → (v ≡ w) ⊎ Reaches f (f v) w
  unfolding Reaches iterate
  reaches_cases v w (zero, e) = inl e
  reaches_cases v w (suc k, e) = inr (k, e)

  -- of two values reached from one, one reaches the other
  pub reaches_total : (v w u : ℕ) → Reaches f v w → Reaches f v u → Reaches f w u ⊎ Reaches f u w
  unfolding Reaches iterate
  reaches_total v w u r s = go r.0 s.0 v r.1 s.1
    where
      go : (i j v : ℕ) → iterate f i v ≡ w → iterate f j v ≡ u → Reaches f w u ⊎ Reaches f u w
      go zero j v d e = inl (j, ap (iterate f j) (sym d) ∙ e)
      go (suc i) zero v d e = inr (suc i, ap (iterate f (suc i)) (sym e) ∙ d)
      go (suc i) (suc j) v d e = go i j (f v) d e

  -- what is reached from a value that f comes back to reaches it too
  pub reaches_back : (v w : ℕ) → Reaches f (f v) v → Reaches f v w → Reaches f w v
  reaches_back v w back r = reaches_keeps (λ u. Reaches f u v) step v w r (reaches_refl f v)
    where
      step : (u : ℕ) → Reaches f u v → Reaches f (f u) v
      step u s = ⊎_elim (λ e. subst (λ x. Reaches f (f x) v) (sym e) back) (λ t. t) (reaches_cases u v s)

  -- all that is reached from a value has its period
  pub period_kept : (k v w : ℕ) → iterate f k v ≡ v → Reaches f v w → iterate f k w ≡ w
  unfolding iterate
  period_kept k v w e r = reaches_keeps (λ u. iterate f k u ≡ u) (λ u d. iterate-suc f k u ∙ ap f d) v w r e

  -- on a cycle f takes each value once
  pub cycle_injective : (v w : ℕ) → f v ≡ f w → Reaches f v w → Reaches f w v → v ≡ w
  unfolding Reaches iterate
  cycle_injective v w e r s =
      ⊎_elim (λ d. d) (λ r'. ⊎_elim (λ d. sym d) (λ s'. go (subst (λ x. Reaches f x w) e r') s') (reaches_cases w v s)) (reaches_cases v w r)
    where
      go : Reaches f (f w) w → Reaches f (f w) v → v ≡ w
      go to_w to_v = sym to_v.1 ∙ period_kept (suc to_v.0) (f w) w (iterate-suc f to_v.0 (f w) ∙ ap f to_v.1 ∙ e) to_w
