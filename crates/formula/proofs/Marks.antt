-- What a byte is to a reader, and the bytes that blanks and digits are.
use Prim.Native.Nat.{ℕ}
use mathlib.Core.Path.{◌≡◌, refl}
use mathlib.Core.Bool.{Bool, true, false, cond}
use lib.Dec.{eqb}
use borrow.Author.Tests.{eqb-true}
use Rattle.text.specs.Text.{is_digit}
use Rattle.formula.specs.Grammar.{Letter, E, R, D, B, letter_byte}
use Rattle.formula.specs.Reader.{Mark, mark, blank, opening, closing, ampersand, bar, other, letter, digit}

pub mark-blank : {b : ℕ} → b ≡ 32 → mark b ≡ blank
unfolding mark
mark-blank e = rw e refl

pub mark-opening : {b : ℕ} → b ≡ 40 → mark b ≡ opening
unfolding mark
mark-opening e = rw e refl

pub mark-closing : {b : ℕ} → b ≡ 41 → mark b ≡ closing
unfolding mark
mark-closing e = rw e refl

pub mark-ampersand : {b : ℕ} → b ≡ 38 → mark b ≡ ampersand
unfolding mark
mark-ampersand e = rw e refl

pub mark-bar : {b : ℕ} → b ≡ 124 → mark b ≡ bar
unfolding mark
mark-bar e = rw e refl

pub mark_letter : (l : Letter) → mark (letter_byte l) ≡ letter l
unfolding mark letter_byte
mark_letter E = refl
mark_letter R = refl
mark_letter D = refl
mark_letter B = refl

-- the bytes with each mark
pub data Marked (b : ℕ) : Mark → Type 0 where
  is_blank_lem : b ≡ 32 → Marked b blank
  is_opening : b ≡ 40 → Marked b opening
  is_closing : b ≡ 41 → Marked b closing
  is_ampersand : b ≡ 38 → Marked b ampersand
  is_bar : b ≡ 124 → Marked b bar
  is_letter : (l : Letter) → b ≡ letter_byte l → Marked b (letter l)
  is_digit_lem : is_digit b ≡ true → Marked b digit
  is_other : is_digit b ≡ false → Marked b other

pub marked : (b : ℕ) → Marked b (mark b)
unfolding mark letter_byte
marked b =
    by 32 (eqb b 32) refl (λ e. is_blank_lem (eqb-true b 32 e))
    (by 40 (eqb b 40) refl (λ e. is_opening (eqb-true b 40 e))
    (by 41 (eqb b 41) refl (λ e. is_closing (eqb-true b 41 e))
    (by 38 (eqb b 38) refl (λ e. is_ampersand (eqb-true b 38 e))
    (by 124 (eqb b 124) refl (λ e. is_bar (eqb-true b 124 e))
    (by 69 (eqb b 69) refl (λ e. is_letter E (eqb-true b 69 e))
    (by 82 (eqb b 82) refl (λ e. is_letter R (eqb-true b 82 e))
    (by 68 (eqb b 68) refl (λ e. is_letter D (eqb-true b 68 e))
    (by 66 (eqb b 66) refl (λ e. is_letter B (eqb-true b 66 e)) (last (is_digit b) refl)))))))))
  where
    by : (x : ℕ) (t : Bool) {m n : Mark} → eqb b x ≡ t → (eqb b x ≡ true → Marked b m) → Marked b n → Marked b (cond t m n)
    by x true e f r = f e
    by x false e f r = r

    last : (t : Bool) → is_digit b ≡ t → Marked b (cond t digit other)
    last true e = is_digit_lem e
    last false e = is_other e
