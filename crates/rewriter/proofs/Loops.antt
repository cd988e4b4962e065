-- Laws of the loop over booleans, and of lengths. Assumes nothing.
use Prim.Native.Nat.{ℕ, zero, suc, ◌+◌, ◌-◌, ◌*◌, ◌≤◌, ◌<◌}
use native.Mathlib.Omega.{arith}
use native.Mathlib.Numerals.{add-one}
use mathlib.Core.Path.{◌≡◌, refl, sym, ap, ◌∙◌}
use mathlib.Core.List.{List, [], ◌∷◌, ◌++◌}
use lib.ListN.{length, get_or, drop, length-append, length-drop}
use lib.Seq.{drop-cons, drop-length, length-take-le}
use Rattle.rewriter.specs.Bytes.{cut, field_bytes, term_bytes}

module _ (t : ℕ) (bytes : List ℕ) (count : ℕ) (long : length bytes ≡ 2 * count) where
  -- the booleans from k on
  abbrev pub left : ℕ → List ℕ
  left k = field_bytes t (drop (2 * k) bytes)

  pub left_all : field_bytes t bytes ≡ left 0
  left_all = refl

  two_first : (k : ℕ) → k < count → drop (2 * k) bytes ≡ get_or bytes (2 * k) 0 ∷ get_or bytes (2 * k + 1) 0 ∷ drop (2 * (k + 1)) bytes
  two_first k h =
      drop-cons bytes (2 * k) 0 (omega arith)
      ∙ ap (λ (xs : List ℕ). get_or bytes (2 * k) 0 ∷ xs)
      (ap (λ (i : ℕ). drop i bytes) (sym (add-one (2 * k))) ∙ drop-cons bytes (2 * k + 1) 0 (omega arith) ∙ ap (λ (i : ℕ). get_or bytes (2 * k + 1) 0 ∷ drop i bytes) (next k))
    where
      next : (k : ℕ) → suc (2 * k + 1) ≡ 2 * (k + 1)
      next k = omega arith

  pub left-next : (k : ℕ) → k < count → left k ≡ (get_or bytes (2 * k) 0 ∷ get_or bytes (2 * k + 1) 0 ∷ t ∷ []) ++ left (k + 1)
  unfolding field_bytes
  left-next k h = ap (field_bytes t) (two_first k h)

  pub left_end : (k : ℕ) → count ≤ k → k ≤ count → left k ≡ []
  unfolding field_bytes
  left_end k h l =
      let e : 2 * k ≡ length bytes = omega arith in
      ap (λ (i : ℕ). field_bytes t (drop i bytes)) e ∙ ap (field_bytes t) (drop-length bytes)

-- how long a part is
pub cut_long : (bytes : List ℕ) (i j : ℕ) → i ≤ j → j ≤ length bytes → length (cut bytes i j) ≡ j - i
unfolding cut
cut_long bytes i j h l = length-take-le (j - i) (drop i bytes) (omega (arith, length-drop i bytes))

-- and a data literal for each boolean
pub fields_long : (t count : ℕ) (bytes : List ℕ) → length bytes ≡ 2 * count → length (field_bytes t bytes) ≡ 3 * count
unfolding field_bytes
fields_long t count [] h = omega arith
fields_long t count (s ∷ []) h = absurd (omega arith)
fields_long t zero (s ∷ a ∷ rest) h = absurd (omega arith)
fields_long t (suc count) (s ∷ a ∷ rest) h = omega (arith, fields_long t count rest (omega arith))

pub terms_long : (n : ℕ) (bytes : List ℕ) → n + 1 ≤ length bytes → length (term_bytes n bytes) ≡ n + 2
unfolding term_bytes
terms_long n bytes h = omega (arith, length-append (cut bytes 1 (n + 1)) (0 ∷ []), cut_long bytes 1 (n + 1) (omega arith) h)

pub booleans_long : (bytes : List ℕ) (i count : ℕ) → i + 2 * count ≤ length bytes → length (cut bytes i (i + 2 * count)) ≡ 2 * count
booleans_long bytes i count h = cut_long bytes i (i + 2 * count) (omega arith) h ∙ omega arith
