-- The bits of a word, for any word: what each operation does to them. Callers use these laws and know nothing of digits.
use Prim.Native.Nat.{ℕ, zero, suc, ◌+◌, ◌-◌, ◌*◌, ◌/◌, ◌%◌, ◌^◌, ◌<◌, min, max}
use native.Mathlib.Nat.{div-div-eq-div-mul, mul_comm, pow-suc, mod-lt, zero-lt-suc, add-zero, zero-min, min-zero}
use native.Mathlib.Omega.{arith}
use mathlib.Core.Path.{◌≡◌, refl, sym, ap, ap₂, ◌∙◌}
use mathlib.Core.Bool.{Bool, true, false, not}
use lib.Dec.{eqb, ltb, leb-suc-suc, eqb-suc-suc}
use lib.Pow.{pow_pos}
use lib.Bits.{bit_and, bit_or, bit_xor, differ, and_step, or_step, xor_step, and_self}
use lib.Count.{count_trailing_zeros}
use borrow.Author.Tests.{lt-ltb, le-ltb, ne_eqb}
use Rattle.logic.specs.Search.{◌and◌, ◌or◌}
use Rattle.theory.proofs.Basics.Search.{and-false, and-true}
use Rattle.rows.specs.Bits.{bit}

pub bit_is : (w b : ℕ) → bit w b ≡ eqb (w / 2 ^ b % 2) 1
unfolding bit
bit_is w b = refl

-- the lowest bit, and the others
pub bit-zero : (w : ℕ) → bit w 0 ≡ eqb (w % 2) 1
unfolding bit
bit-zero w = ap (λ (x : ℕ). eqb (x % 2) 1) whole
  where
    whole : w / 1 ≡ w
    whole = omega arith

pub bit-suc : (w b : ℕ) → bit w (suc b) ≡ bit (w / 2) b
unfolding bit
bit-suc w b = ap (λ (x : ℕ). eqb (x % 2) 1) (ap (λ (x : ℕ). w / x) (pow-suc 2 b ∙ mul_comm (2 ^ b) 2) ∙ sym (div-div-eq-div-mul w 2 (2 ^ b)))

-- an operation that works digit by digit
module _ (op : ℕ → ℕ → ℕ) (f : ℕ → ℕ → ℕ) (t : Bool → Bool → Bool)
    (step : (a b : ℕ) → op a b ≡ op (a / 2) (b / 2) * 2 + f (a % 2) (b % 2))
    (digit : (x y : ℕ) → x < 2 → y < 2 → (f x y < 2) × (eqb (f x y) 1 ≡ t (eqb x 1) (eqb y 1))) where
  halves : (a b : ℕ) → (op a b / 2 ≡ op (a / 2) (b / 2)) × (op a b % 2 ≡ f (a % 2) (b % 2))
  halves a b =
      let s = step a b in
      let d = (digit (a % 2) (b % 2) (mod-lt a (zero-lt-suc 1)) (mod-lt b (zero-lt-suc 1))).0 in
      (omega arith, omega arith)

  bit_op : (i a b : ℕ) → bit (op a b) i ≡ t (bit a i) (bit b i)
  bit_op zero a b =
      bit-zero (op a b)
      ∙ ap (λ (x : ℕ). eqb x 1) (halves a b).1
      ∙ (digit (a % 2) (b % 2) (mod-lt a (zero-lt-suc 1)) (mod-lt b (zero-lt-suc 1))).1
      ∙ ap₂ t (sym (bit-zero a)) (sym (bit-zero b))
  bit_op (suc i) a b =
      bit-suc (op a b) i
      ∙ ap (λ (x : ℕ). bit x i) (halves a b).0
      ∙ bit_op i (a / 2) (b / 2)
      ∙ ap₂ t (sym (bit-suc a i)) (sym (bit-suc b i))

-- two words
xor : Bool → Bool → Bool
xor true b = not b
xor false b = b

and_digit : (x y : ℕ) → x < 2 → y < 2 → (min x y < 2) × (eqb (min x y) 1 ≡ eqb x 1 and eqb y 1)
unfolding ◌and◌
and_digit zero zero h k = (k, refl)
and_digit zero (suc zero) h k = (h, refl)
and_digit zero (suc (suc y)) h k = absurd (omega arith)
and_digit (suc zero) zero h k = (k, refl)
and_digit (suc zero) (suc zero) h k = (k, refl)
and_digit (suc zero) (suc (suc y)) h k = absurd (omega arith)
and_digit (suc (suc x)) y h k = absurd (omega arith)

or_digit : (x y : ℕ) → x < 2 → y < 2 → (max x y < 2) × (eqb (max x y) 1 ≡ eqb x 1 or eqb y 1)
unfolding ◌or◌
or_digit zero zero h k = (k, refl)
or_digit zero (suc zero) h k = (k, refl)
or_digit zero (suc (suc y)) h k = absurd (omega arith)
or_digit (suc zero) zero h k = (h, refl)
or_digit (suc zero) (suc zero) h k = (k, refl)
or_digit (suc zero) (suc (suc y)) h k = absurd (omega arith)
or_digit (suc (suc x)) y h k = absurd (omega arith)

xor_digit : (x y : ℕ) → x < 2 → y < 2 → (differ x y < 2) × (eqb (differ x y) 1 ≡ xor (eqb x 1) (eqb y 1))
unfolding xor
xor_digit zero zero h k = (k, refl)
xor_digit zero (suc zero) h k = (k, refl)
xor_digit zero (suc (suc y)) h k = absurd (omega arith)
xor_digit (suc zero) zero h k = (h, refl)
xor_digit (suc zero) (suc zero) h k = (omega arith, refl)
xor_digit (suc zero) (suc (suc y)) h k = absurd (omega arith)
xor_digit (suc (suc x)) y h k = absurd (omega arith)

module _ (a b i : ℕ) where
  pub bit-and : bit (bit_and a b) i ≡ bit a i and bit b i
  bit-and = bit_op bit_and min ◌and◌ and_step and_digit i a b

  pub bit-or : bit (bit_or a b) i ≡ bit a i or bit b i
  bit-or = bit_op bit_or max ◌or◌ or_step or_digit i a b

  bit-xor : bit (bit_xor a b) i ≡ xor (bit a i) (bit b i)
  bit-xor = bit_op bit_xor differ xor xor_step xor_digit i a b

-- the bits of a that b does not have
pub bit_without : (a b i : ℕ) → bit (bit_xor (bit_or a b) b) i ≡ bit a i and not (bit b i)
unfolding ◌or◌ ◌and◌ xor
bit_without a b i = bit-xor (bit_or a b) b i ∙ rw (bit-or a b i) (go (bit a i) (bit b i))
  where
    go : (s t : Bool) → xor (s or t) t ≡ s and not t
    go true true = refl
    go true false = refl
    go false true = refl
    go false false = refl

-- no bit of 0 is set, and a word without bits is 0
pub bit-none : (i : ℕ) → bit 0 i ≡ false
bit-none zero = bit-zero 0
bit-none (suc i) = bit-suc 0 i ∙ bit-none i

-- 1 shifted by b has bit b alone
pub bit_power : (b i : ℕ) → bit (2 ^ b) i ≡ eqb i b
bit_power zero zero = bit-zero 1
bit_power zero (suc i) = bit-suc 1 i ∙ bit-none i ∙ sym (ne_eqb (suc i) 0 (λ e. omega arith))
bit_power (suc b) zero = bit-zero (2 ^ suc b) ∙ ap (λ (x : ℕ). eqb x 1) even ∙ sym (ne_eqb 0 (suc b) (λ e. omega arith))
  where
    even : 2 ^ suc b % 2 ≡ 0
    even = let p = pow-suc 2 b in omega arith
bit_power (suc b) (suc i) = bit-suc (2 ^ suc b) i ∙ ap (λ (x : ℕ). bit x i) half ∙ bit_power b i ∙ sym (eqb-suc-suc i b)
  where
    half : 2 ^ suc b / 2 ≡ 2 ^ b
    half = let p = pow-suc 2 b in omega arith

-- the k lowest bits
pub bit_ones : (k i : ℕ) → bit (2 ^ k - 1) i ≡ ltb i k
bit_ones zero i = bit-none i ∙ sym (le-ltb i 0 (omega arith))
bit_ones (suc k) zero = bit-zero (2 ^ suc k - 1) ∙ ap (λ (x : ℕ). eqb x 1) odd ∙ sym (lt-ltb 0 (suc k) (omega arith))
  where
    odd : (2 ^ suc k - 1) % 2 ≡ 1
    odd = let p = pow-suc 2 k in let q = pow_pos k in omega arith
bit_ones (suc k) (suc i) = bit-suc (2 ^ suc k - 1) i ∙ ap (λ (x : ℕ). bit x i) half ∙ bit_ones k i ∙ sym (leb-suc-suc (suc i) k)
  where
    half : (2 ^ suc k - 1) / 2 ≡ 2 ^ k - 1
    half = let p = pow-suc 2 k in let q = pow_pos k in omega arith

-- the lowest bit that is set, and the word without it
module _ where
  lowest_even : (k w : ℕ) → w % 2 ≡ 0 → count_trailing_zeros (suc k) w ≡ suc (count_trailing_zeros k (w / 2))
  unfolding count_trailing_zeros
  lowest_even k w e = rw e

  lowest_odd : (k w : ℕ) → w % 2 ≡ 1 → count_trailing_zeros (suc k) w ≡ 0
  unfolding count_trailing_zeros
  lowest_odd k w e = rw e

pub lowest_set : (k w : ℕ) → 0 < w → w < 2 ^ k → bit w (count_trailing_zeros k w) ≡ true
lowest_set zero w p h = absurd (omega arith)
lowest_set (suc k) w p h = go (w % 2) refl (mod-lt w (zero-lt-suc 1)) (lowest_set k (w / 2))
  where
    go : (d : ℕ) → w % 2 ≡ d → d < 2 → (0 < w / 2 → w / 2 < 2 ^ k → bit (w / 2) (count_trailing_zeros k (w / 2)) ≡ true) → bit w (count_trailing_zeros (suc k) w) ≡ true
    go zero e l rest =
        let q = pow-suc 2 k in
        ap (bit w) (lowest_even k w e) ∙ bit-suc w (count_trailing_zeros k (w / 2)) ∙ rest (omega arith) (omega arith)
    go (suc zero) e l rest = ap (bit w) (lowest_odd k w e) ∙ bit-zero w ∙ rw e
    go (suc (suc d)) e l rest = absurd (omega arith)

pub lowest_in : (k w : ℕ) → 0 < w → w < 2 ^ k → count_trailing_zeros k w < k
lowest_in zero w p h = absurd (omega arith)
lowest_in (suc k) w p h = go (w % 2) refl (mod-lt w (zero-lt-suc 1)) (lowest_in k (w / 2))
  where
    go : (d : ℕ) → w % 2 ≡ d → d < 2 → (0 < w / 2 → w / 2 < 2 ^ k → count_trailing_zeros k (w / 2) < k) → count_trailing_zeros (suc k) w < suc k
    go zero e l rest = let q = pow-suc 2 k in let r = rest (omega arith) (omega arith) in rw (lowest_even k w e) (omega arith)
    go (suc zero) e l rest = rw (lowest_odd k w e) (omega arith)
    go (suc (suc d)) e l rest = absurd (omega arith)

pub lowest_least : (k w i : ℕ) → i < count_trailing_zeros k w → bit w i ≡ false
unfolding count_trailing_zeros
lowest_least zero w i h = absurd (omega arith)
lowest_least (suc k) w i h = go (w % 2) refl (mod-lt w (zero-lt-suc 1)) i h (lowest_least k (w / 2))
  where
    go : (d : ℕ) → w % 2 ≡ d → d < 2 → (j : ℕ) → j < count_trailing_zeros (suc k) w → ((i : ℕ) → i < count_trailing_zeros k (w / 2) → bit (w / 2) i ≡ false) → bit w j ≡ false
    go zero e l zero g rest = bit-zero w ∙ rw e
    go zero e l (suc j) g rest = let q = lowest_even k w e in bit-suc w j ∙ rest j (omega arith)
    go (suc zero) e l zero g rest = let q = lowest_odd k w e in absurd (omega arith)
    go (suc zero) e l (suc j) g rest = let q = lowest_odd k w e in absurd (omega arith)
    go (suc (suc d)) e l zero g rest = absurd (omega arith)
    go (suc (suc d)) e l (suc j) g rest = absurd (omega arith)

-- what a word and the word less 1 have in common
less_even : (w : ℕ) → 0 < w → w % 2 ≡ 0 → bit_and w (w - 1) ≡ bit_and (w / 2) (w / 2 - 1) * 2
less_even w p e = and_step w (w - 1) ∙ rw (e, half, zero-min ((w - 1) % 2), add-zero)
  where
    half : (w - 1) / 2 ≡ w / 2 - 1
    half = omega arith

less_odd : (w : ℕ) → w % 2 ≡ 1 → bit_and w (w - 1) ≡ w / 2 * 2
less_odd w e = and_step w (w - 1) ∙ rw (half, even, and_self (w / 2), min-zero (w % 2), add-zero)
  where
    half : (w - 1) / 2 ≡ w / 2
    half = omega arith

    even : (w - 1) % 2 ≡ 0
    even = omega arith

double_low : (v : ℕ) → bit (v * 2) 0 ≡ false
double_low v = bit-zero (v * 2) ∙ ap (λ (x : ℕ). eqb x 1) even
  where
    even : v * 2 % 2 ≡ 0
    even = omega arith

double_high : (v i : ℕ) → bit (v * 2) (suc i) ≡ bit v i
double_high v i = bit-suc (v * 2) i ∙ ap (λ (x : ℕ). bit x i) half
  where
    half : v * 2 / 2 ≡ v
    half = omega arith

-- that is the word without its lowest bit
pub bit-rest : (k w : ℕ) → 0 < w → w < 2 ^ k → (i : ℕ) → bit (bit_and w (w - 1)) i ≡ bit w i and not (eqb i (count_trailing_zeros k w))
unfolding ◌and◌
bit-rest zero w p h i = absurd (omega arith)
bit-rest (suc k) w p h i = go (w % 2) refl (mod-lt w (zero-lt-suc 1)) (bit-rest k (w / 2)) i
  where
    go : (d : ℕ) → w % 2 ≡ d → d < 2 →
        (0 < w / 2 → w / 2 < 2 ^ k → (i : ℕ) → bit (bit_and (w / 2) (w / 2 - 1)) i ≡ bit (w / 2) i and not (eqb i (count_trailing_zeros k (w / 2)))) → (i : ℕ) →
        bit (bit_and w (w - 1)) i ≡ bit w i and not (eqb i (count_trailing_zeros (suc k) w))
    go zero e l rest zero = rw (less_even w p e, double_low (bit_and (w / 2) (w / 2 - 1)), bit-zero w, e)
    go zero e l rest (suc j) =
        let q = pow-suc 2 k in
        ap (λ (x : ℕ). bit x (suc j)) (less_even w p e)
        ∙ double_high _ j
        ∙ rest (omega arith) (omega arith) j
        ∙ sym (rw (bit-suc w j, lowest_even k w e, eqb-suc-suc j (count_trailing_zeros k (w / 2))))
    go (suc zero) e l rest zero = rw (less_odd w e, double_low (w / 2), lowest_odd k w e) (sym (and-false (bit w 0)))
    go (suc zero) e l rest (suc j) =
        ap (λ (x : ℕ). bit x (suc j)) (less_odd w e)
        ∙ double_high (w / 2) j
        ∙ sym (rw (bit-suc w j, lowest_odd k w e, ne_eqb (suc j) 0 (λ z. omega arith)) (and-true (bit (w / 2) j)))
    go (suc (suc d)) e l rest zero = absurd (omega arith)
    go (suc (suc d)) e l rest (suc j) = absurd (omega arith)
