-- A search or a test of the numbers from k below m, as a loop over k meets it: what is left of it equals the whole.
use Prim.Native.Nat.{ℕ, suc, ◌+◌, ◌-◌, ◌≤◌, ◌<◌}
use native.Mathlib.Nat.{sub-eq-zero_of_le}
use native.Mathlib.Numerals.{add-one}
use native.Mathlib.Omega.{arith}
use mathlib.Core.Path.{◌≡◌, sym, ap, ◌∙◌}
use mathlib.Core.Bool.{Bool, true, false}
use mathlib.Core.List.{[], ◌∷◌}
use mathlib.Core.Option.{Option, none, some}
use Rattle.logic.specs.Search.{◌and◌, from, keep, or_else, first_of, find, all}

pub from_end : (m k : ℕ) → m ≤ k → from (m - k) k ≡ []
unfolding from
from_end m k h = rw (sub-eq-zero_of_le h)

pub from_next : (m k : ℕ) → k < m → from (m - k) k ≡ k ∷ from (m - (k + 1)) (k + 1)
unfolding from
from_next m k h = ap (λ (j : ℕ). from j k) (left) ∙ ap (λ (j : ℕ). k ∷ from (m - (k + 1)) j) (sym (add-one k))
  where
    left : m - k ≡ suc (m - (k + 1))
    left = omega arith

module _ {B : Type 0} (g : ℕ → Option B) (m : ℕ) where
  pub first_end : (k : ℕ) → m ≤ k → first_of g (from (m - k) k) ≡ none
  unfolding first_of
  first_end k h = rw (from_end m k h)

  pub first_here : (k : ℕ) (b : B) → k < m → g k ≡ some b → first_of g (from (m - k) k) ≡ some b
  unfolding first_of or_else
  first_here k b h e = rw (from_next m k h, e)

  pub first_next : (k : ℕ) → k < m → g k ≡ none → first_of g (from (m - k) k) ≡ first_of g (from (m - (k + 1)) (k + 1))
  unfolding first_of or_else
  first_next k h e = rw (from_next m k h, e)

module _ (p : ℕ → Bool) (m : ℕ) where
  pub find_end : (k : ℕ) → m ≤ k → find p (from (m - k) k) ≡ none
  unfolding find
  find_end k h = first_end (λ a. keep (p a) a) m k h

  pub find_here : (k : ℕ) → k < m → p k ≡ true → find p (from (m - k) k) ≡ some k
  unfolding find keep
  find_here k h e = first_here (λ a. keep (p a) a) m k k h (rw e)

  pub find_next : (k : ℕ) → k < m → p k ≡ false → find p (from (m - k) k) ≡ find p (from (m - (k + 1)) (k + 1))
  unfolding find keep
  find_next k h e = first_next (λ a. keep (p a) a) m k h (rw e)

  pub all_end : (k : ℕ) → m ≤ k → all p (from (m - k) k) ≡ true
  unfolding all
  all_end k h = rw (from_end m k h)

  pub all_fails : (k : ℕ) → k < m → p k ≡ false → all p (from (m - k) k) ≡ false
  unfolding all ◌and◌
  all_fails k h e = rw (from_next m k h, e)

  pub all_next : (k : ℕ) → k < m → p k ≡ true → all p (from (m - k) k) ≡ all p (from (m - (k + 1)) (k + 1))
  unfolding all ◌and◌
  all_next k h e = rw (from_next m k h, e)
