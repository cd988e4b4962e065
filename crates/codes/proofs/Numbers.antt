-- The number gives back the answer, whatever call it is of. Assumes nothing.
use Prim.Native.Nat.{ℕ}
use native.Mathlib.Omega.{arith}
use mathlib.Core.Path.{◌≡◌, refl, sym, ap, ◌∙◌}
use Rattle.codes.specs.Codes.{Digits, with_high, code, digits_in, Fits}

same_digits : {x x' y y' z z' : ℕ} → x ≡ x' → y ≡ y' → z ≡ z' → with_high x y z ≡ with_high x' y' z'
same_digits a b c = cc

digits_back : (d : Digits) → Fits d → digits_in (code d) ≡ d
unfolding digits_in
digits_back d h = same_digits (omega arith) (omega arith) (omega arith)

-- A kind of answer, its digits, and how they are read back.
module _ {A : Type 0} (digits : A → Digits) (back : Digits → A) where
  -- an answer whose digits fit and are read back as that answer
  pub record Returns (a : A) : Type 0 where
    pub fits : Fits (digits a)
    pub read : back (digits a) ≡ a

  pub number_back : (a : A) → Returns a → (r : ℕ) → r ≡ code (digits a) → back (digits_in r) ≡ a
  number_back a h r e = ap (λ (x : ℕ). back (digits_in x)) e ∙ ap back (digits_back (digits a) h.fits) ∙ h.read

  -- no two such answers have one number
  pub one_number : (a b : A) → Returns a → Returns b → code (digits a) ≡ code (digits b) → a ≡ b
  one_number a b h g e = sym (number_back a h (code (digits a)) refl) ∙ number_back b g (code (digits a)) e
