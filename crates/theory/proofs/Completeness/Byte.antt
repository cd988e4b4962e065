-- A byte made of bits has these bits.
use Prim.Native.Nat.{ℕ, zero, suc, ◌+◌, ◌-◌, ◌*◌, ◌/◌, ◌%◌, ◌≤◌, ◌<◌}
use native.Mathlib.Omega.{arith}
use native.Mathlib.Nat.{suc-add, add-suc, add-zero}
use mathlib.Core.Path.{◌≡◌, sym, ap, ◌∙◌}
use mathlib.Core.Bool.{Bool, true, false, cond}
use lib.Dec.{eqb}
use Rattle.logic.specs.Shown.{byte_of, bit_of}

-- a bit in front of a number: the lowest bit, and the rest
front_low : (c : Bool) (b : ℕ) → eqb ((cond c 1 0 + 2 * b) % 2) 1 ≡ c
front_low true b = let e : (1 + 2 * b) % 2 ≡ 1 = omega arith in rw e
front_low false b = let e : (0 + 2 * b) % 2 ≡ 0 = omega arith in rw e

front_rest : (c : Bool) (b : ℕ) → (cond c 1 0 + 2 * b) / 2 ≡ b
front_rest true b = omega arith
front_rest false b = omega arith

module _ (f : ℕ → Bool) where
  bit_add : (i k d : ℕ) → d < k → bit_of (byte_of f i k) d ≡ f (i + d)
  unfolding bit_of byte_of
  bit_add i zero d h = absurd (omega arith)
  bit_add i (suc k) zero h = front_low (f i) (byte_of f (suc i) k) ∙ ap f (sym (add-zero i))
  bit_add i (suc k) (suc d) h =
      ap (λ (b : ℕ). bit_of b d) (front_rest (f i) (byte_of f (suc i) k)) ∙ bit_add (suc i) k d (omega arith) ∙ ap f (suc-add i d ∙ sym (add-suc i d))

  -- "field j in bit j-1"
  pub byte_bit : (j : ℕ) → 1 ≤ j → j ≤ 8 → bit_of (byte_of f 1 8) (j - 1) ≡ f j
  byte_bit j l h = let e : 1 + (j - 1) ≡ j = omega arith in bit_add 1 8 (j - 1) (omega arith) ∙ ap f e
