-- What the code computes with a word, as its bits.
use Prim.Native.Nat.{ℕ, zero, suc, ◌+◌, ◌-◌, ◌*◌, ◌/◌, ◌%◌, ◌^◌, ◌≤◌, ◌<◌}
use native.Mathlib.Nat.{mod-lt, zero-lt-suc, one-mul, mul_comm, pow-suc, le_refl, zero-mul}
use native.Mathlib.Numerals.{add-one}
use native.Mathlib.Omega.{arith}
use mathlib.Core.Path.{◌≡◌, refl, sym, ap, ap₂, ◌∙◌, fun_ext}
use mathlib.Core.Bool.{Bool, true, false, not}
use lib.Dec.{eqb, ltb}
use lib.Pow.{shl_exact}
use lib.Bits.{bit_and, bit_or, and_mask}
use borrow.Author.Tests.{eqb-true, eqb-false, eq-eqb, ne_eqb, lt-ltb, le-ltb}
use Rattle.logic.specs.Search.{◌and◌, ◌or◌}
use Rattle.rows.specs.Bits.{bit}
use Rattle.rows.specs.Square.{renamed_row}
use Rattle.rows.proofs.Bits.{bit-zero, bit_is, bit-none, bit_power, bit_ones, bit-and, bit-or}
use Rattle.rows.proofs.Square.{renamed_is}

-- the word shifted down to b, and its lowest bit
pub bit_shifted : (w b : ℕ) → eqb (bit_and (w / 2 ^ b) 1) 1 ≡ bit w b
unfolding bit
bit_shifted w b = ap (λ (x : ℕ). eqb x 1) (and_mask (w / 2 ^ b) 1)

-- 1 shifted up to b
shifted_one : (b : ℕ) → b ≤ 16 → (1 * 2 ^ b) % 2 ^ 32 ≡ 2 ^ b
shifted_one b h = shl_exact {a = 1} 1 b 32 (le_refl 2) (omega arith) ∙ one-mul (2 ^ b)

pub bit_only : (b : ℕ) → b ≤ 16 → (i : ℕ) → bit ((1 * 2 ^ b) % 2 ^ 32) i ≡ eqb i b
bit_only b h i = ap (λ (x : ℕ). bit x i) (shifted_one b h) ∙ bit_power b i

-- the lowest bit of a word shifted down to hi, shifted up to lo
pub bit_moved : (w lo hi : ℕ) → lo ≤ 16 → (i : ℕ) → bit ((bit_and (w / 2 ^ hi) 1 * 2 ^ lo) % 2 ^ 32) i ≡ bit w hi and eqb i lo
unfolding ◌and◌
bit_moved w lo hi h i = go (bit_and (w / 2 ^ hi) 1) (bit w hi) (bit_shifted w hi) small
  where
    small : bit_and (w / 2 ^ hi) 1 < 2
    small = rw (and_mask (w / 2 ^ hi) 1) (mod-lt (w / 2 ^ hi) (zero-lt-suc 1))

    go : (d : ℕ) (t : Bool) → eqb d 1 ≡ t → d < 2 → bit ((d * 2 ^ lo) % 2 ^ 32) i ≡ t and eqb i lo
    go zero true e l = absurd (let f = eqb-true 0 1 e in omega arith)
    go zero false e l = ap (λ (x : ℕ). bit (x % 2 ^ 32) i) (zero-mul (2 ^ lo)) ∙ bit-none i
    go (suc zero) true e l = bit_only lo h i
    go (suc zero) false e l = absurd (eqb-false 1 1 e refl)
    go (suc (suc d)) t e l = absurd (omega arith)

-- the numbers up to n
shifted_two : (n : ℕ) → n ≤ 16 → (2 * 2 ^ n) % 2 ^ 32 ≡ 2 ^ suc n
shifted_two n h = shl_exact {a = 2} 2 n 32 (le_up 3) (omega arith) ∙ mul_comm 2 (2 ^ n) ∙ sym (pow-suc 2 n)
  where
    le_up : (k : ℕ) → k ≤ k + 1
    le_up k = omega arith

pub bit_up_to : (n : ℕ) → n ≤ 16 → (i : ℕ) → bit ((2 * 2 ^ n) % 2 ^ 32 - 1) i ≡ ltb i (n + 1)
bit_up_to n h i = ap (λ (x : ℕ). bit (x - 1) i) (shifted_two n h) ∙ bit_ones (suc n) i ∙ ap (ltb i) (sym (add-one n))

-- less 0
pub bit_terms : (n m w : ℕ) → ((i : ℕ) → bit m i ≡ ltb i (n + 1)) → ((i : ℕ) → bit w i ≡ bit m i and not (bit 1 i)) → (i : ℕ) → bit w i ≡ ltb 0 i and ltb i (n + 1)
unfolding ◌and◌
bit_terms n m w f e i = e i ∙ rw (f i, bit_power 0 i) (go (eqb i 0) refl (ltb i (n + 1)))
  where
    some-false : (u : Bool) → u and true ≡ u
    some-false true = refl
    some-false false = refl

    none_true : (u : Bool) → u and false ≡ false
    none_true true = refl
    none_true false = refl

    go : (t : Bool) → eqb i 0 ≡ t → (u : Bool) → u and not t ≡ ltb 0 i and u
    go true q u = let p = eqb-true i 0 q in none_true u ∙ sym (rw (le-ltb 0 i (omega arith)))
    go false q u = let p = eqb-false i 0 q in some-false u ∙ sym (rw (lt-ltb 0 i (positive i p)))
      where
        positive : (j : ℕ) → (j ≡ 0 → ⊥) → 0 < j
        positive zero q = absurd (q refl)
        positive (suc j) q = omega arith

-- a word in which hi is moved to lo
pub bit_renamed : (w v lo hi : ℕ) → lo < hi → hi ≤ 16 → (o : ℕ) → ((i : ℕ) → bit o i ≡ eqb i hi) → ((i : ℕ) → bit v i ≡ bit w i and not (bit o i)) →
    bit (bit_or v ((bit_and (w / 2 ^ hi) 1 * 2 ^ lo) % 2 ^ 32)) ≡ renamed_row lo hi (bit w)
unfolding ◌and◌ ◌or◌
bit_renamed w v lo hi below h o f e = fun_ext
    (renamed_is lo hi below (bit w) _ (λ y p. at y ∙ rw (p, eq-eqb hi hi refl, ne_eqb hi lo (λ z. omega arith)) (high (bit w hi)))
    (λ y p. at y ∙ rw (p, ne_eqb lo hi (λ z. omega arith), eq-eqb lo lo refl) (low (bit w lo) (bit w hi)))
    (λ y p q. at y ∙ rw (ne_eqb y hi q, ne_eqb y lo p) (other (bit w y) (bit w hi))))
  where
    at : (y : ℕ) → bit (bit_or v ((bit_and (w / 2 ^ hi) 1 * 2 ^ lo) % 2 ^ 32)) y ≡ (bit w y and not (eqb y hi)) or (bit w hi and eqb y lo)
    at y = bit-or v _ y ∙ ap₂ ◌or◌ (e y ∙ ap (λ (t : Bool). bit w y and not t) (f y)) (bit_moved w lo hi (omega arith) y)

    high : (s : Bool) → (s and false) or (s and false) ≡ false
    high true = refl
    high false = refl

    low : (s t : Bool) → (s and true) or (t and true) ≡ s or t
    low true t = refl
    low false true = refl
    low false false = refl

    other : (s t : Bool) → (s and true) or (t and false) ≡ s
    other true t = refl
    other false true = refl
    other false false = refl

-- a word with the bit of t, where that is wanted
module _ (w o t : ℕ) (e : (i : ℕ) → bit o i ≡ eqb i t) (i : ℕ) where
  pub bit_with : (wanted : Bool) → wanted ≡ true → bit (bit_or w o) i ≡ bit w i or (eqb i t and wanted)
  unfolding ◌and◌
  bit_with wanted h = bit-or w o i ∙ ap (λ (u : Bool). bit w i or u) (e i ∙ sym (rw h (go (eqb i t))))
    where
      go : (u : Bool) → u and true ≡ u
      go true = refl
      go false = refl

pub bit_as_it_was : (w t i : ℕ) (wanted : Bool) → wanted ≡ false → bit w i ≡ bit w i or (eqb i t and wanted)
unfolding ◌and◌ ◌or◌
bit_as_it_was w t i wanted h = sym (rw h (go (bit w i) (eqb i t)))
  where
    go : (u v : Bool) → u or (v and false) ≡ u
    go true v = refl
    go false true = refl
    go false false = refl

-- the word of 0, where bit b of another is set
pub bit_single : (w b i : ℕ) → bit (bit_and (w / 2 ^ b) 1) i ≡ bit w b and eqb i 0
unfolding ◌and◌
bit_single w b i = bit-and (w / 2 ^ b) 1 i ∙ rw (bit_power 0 i) (go (eqb i 0) refl)
  where
    none : (t : Bool) → t and false ≡ false
    none true = refl
    none false = refl

    here : bit (w / 2 ^ b) 0 ≡ bit w b
    here = bit-zero (w / 2 ^ b) ∙ sym (bit_is w b)

    go : (t : Bool) → eqb i 0 ≡ t → bit (w / 2 ^ b) i and t ≡ bit w b and t
    go true e = rw (eqb-true i 0 e) (ap (λ (s : Bool). s and true) here)
    go false e = none (bit (w / 2 ^ b) i) ∙ sym (none (bit w b))
