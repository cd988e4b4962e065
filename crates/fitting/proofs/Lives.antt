-- Whether a term is not replaced.
use Prim.Native.Nat.{ℕ, suc, ◌≤◌, ◌<◌}
use native.Mathlib.Omega.{arith}
use mathlib.Core.Path.{◌≡◌, refl, sym, ap, ◌∙◌}
use mathlib.Core.Bool.{Bool, true, false}
use lib.ListN.{get_or}
use lib.Dec.{eqb, ltb}
use borrow.Author.Tests.{lt-ltb, le-ltb}
use Rattle.logic.specs.Search.{◌and◌}
use Rattle.logic.specs.Facts.{live}
use Rattle.facts.specs.Path.{path_of, rep_of}
use Rattle.facts.specs.declared.Facts as code

module _ (n : ℕ) (s : code.Facts) (t : ℕ) where
  pub live-zero : t ≡ 0 → false ≡ live n (path_of s) t
  unfolding live ◌and◌
  live-zero e = sym (rw e refl)

  pub live_above : n < t → false ≡ live n (path_of s) t
  unfolding live ◌and◌
  live_above h = sym (rw (le-ltb t (suc n) (omega arith)) (last (ltb 0 t)))
    where
      last : (b : Bool) → ((b and false) and eqb ((path_of s).rep t) t) ≡ false
      last true = refl
      last false = refl

  pub live_here : n ≤ 16 → (t ≡ 0 → ⊥) → t ≤ n → (to : ℕ) → to ≡ get_or s.rep t 0 → eqb to t ≡ live n (path_of s) t
  unfolding live ◌and◌ path_of rep_of
  live_here b d h to e = ap (λ (r : ℕ). eqb r t) e ∙ sym (rw (lt-ltb 0 t (omega arith), lt-ltb t (suc n) (omega arith), lt-ltb t 17 (omega arith)) refl)
