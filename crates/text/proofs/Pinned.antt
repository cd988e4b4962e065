-- What pins the digits down: they read back as the number, they are digits and no other byte is one, and none leads that need not. Assumes nothing.
use Prim.Native.Nat.{ℕ, zero, suc, ◌+◌, ◌-◌, ◌*◌, ◌/◌, ◌%◌, ◌≤◌, ◌<◌}
use native.Mathlib.Omega.{arith}
use mathlib.Core.Path.{◌≡◌, refl, ap, ◌∙◌}
use mathlib.Core.Logic.{⊎_elim}
use mathlib.Core.Bool.{true, false}
use mathlib.Core.List.{List, [], ◌∷◌, ◌++◌}
use lib.ListN.{length, get_or, length-append, get_or-append}
use lib.Dec.{leb}
use borrow.Author.Tests.{le-leb, lt-leb, leb-true}
use Rattle.logic.specs.Search.{◌and◌, ◌or◌, all}
use Rattle.theory.proofs.Basics.Search.{and_left, and_right, and_intro, or_cases}
use Rattle.theory.proofs.Basics.Compare.{le_cases}
use Rattle.text.specs.Text.{ascii, decimal_within, decimal, hex_digit, hex_byte, number_from, number_in, is_digit, hex_value, hex_from, hex_in, is_hex_digit}
use Rattle.text.proofs.Digits.{decimal-small, decimal_more, hex_digit_low, hex_digit_high}

-- Every number from a property of its tenth. `below` is a bound to recurse on.
each_number : (P : ℕ → Type 0) → ((k : ℕ) → k < 10 → P k) → ((k : ℕ) → 10 ≤ k → P (k / 10) → P k) → (below k : ℕ) → k < below → P k
each_number P small more zero k h = absurd (omega arith)
each_number P small more (suc below) k h =
    ⊎_elim (λ ten. more k ten (each_number P small more below (k / 10) (omega arith))) (λ s. small k s) (le_cases 10 k)

-- the digits of a number read back as the number
read_last : (n : ℕ) (front : List ℕ) (c : ℕ) → number_from n (front ++ (c ∷ [])) ≡ 10 * number_from n front + (c - 48)
unfolding number_from
read_last n [] c = refl
read_last n (d ∷ front) c = read_last (10 * n + (d - 48)) front c

pub decimal_reads : (k : ℕ) → number_in (decimal k) ≡ k
unfolding number_in number_from
decimal_reads k = each_number (λ k. number_in (decimal k) ≡ k) small more (suc k) k (omega arith)
  where
    small : (k : ℕ) → k < 10 → number_from 0 (decimal k) ≡ k
    small k h = ap (number_from 0) (decimal-small k h) ∙ omega arith

    more : (k : ℕ) → 10 ≤ k → number_from 0 (decimal (k / 10)) ≡ k / 10 → number_from 0 (decimal k) ≡ k
    more k h ih = ap (number_from 0) (decimal_more k h) ∙ read_last 0 (decimal (k / 10)) (48 + k % 10) ∙ omega arith

-- they are digits
digit_of : (d : ℕ) → d < 10 → is_digit (48 + d) ≡ true
unfolding is_digit ◌and◌
digit_of d h = rw (le-leb 48 (48 + d) (omega arith), le-leb (48 + d) 57 (omega arith))

letter_of : (d : ℕ) → 10 ≤ d → d < 16 → is_digit (87 + d) ≡ false
unfolding is_digit ◌and◌
letter_of d l h = rw (le-leb 48 (87 + d) (omega arith), lt-leb (87 + d) 57 (omega arith))

digits_last : (front : List ℕ) (c : ℕ) → all is_digit front ≡ true → is_digit c ≡ true → all is_digit (front ++ (c ∷ [])) ≡ true
unfolding all
digits_last [] c h e = and_intro e refl
digits_last (d ∷ front) c h e = and_intro (and_left (is_digit d) _ h) (digits_last front c (and_right (is_digit d) _ h) e)

pub decimal_digits : (k : ℕ) → all is_digit (decimal k) ≡ true
unfolding all ◌and◌
decimal_digits k = each_number (λ k. all is_digit (decimal k) ≡ true) small more (suc k) k (omega arith)
  where
    small : (k : ℕ) → k < 10 → all is_digit (decimal k) ≡ true
    small k h = ap (all is_digit) (decimal-small k h) ∙ rw (digit_of k h)

    more : (k : ℕ) → 10 ≤ k → all is_digit (decimal (k / 10)) ≡ true → all is_digit (decimal k) ≡ true
    more k h ih = ap (all is_digit) (decimal_more k h) ∙ digits_last (decimal (k / 10)) (48 + k % 10) ih (digit_of (k % 10) (omega arith))

-- no other byte is a digit: each is how a number below 10 is written
pub digit_written : (c : ℕ) → is_digit c ≡ true → (k : ℕ) × (k < 10) × (decimal k ≡ c ∷ [])
unfolding is_digit
digit_written c h =
    let low = leb-true 48 c (and_left (leb 48 c) (leb c 57) h) in
    let high = leb-true c 57 (and_right (leb 48 c) (leb c 57) h) in
    let e : 48 + (c - 48) ≡ c = omega arith in
    (c - 48, omega arith, decimal-small (c - 48) (omega arith) ∙ ap (λ (b : ℕ). b ∷ []) e)

-- the first digit is above `0`, save of 0 itself
abbrev Leads : ℕ → Type 0
Leads k = 1 ≤ k → (0 < length (decimal k)) × (48 < get_or (decimal k) 0 0)

pub decimal_leads : (k : ℕ) → 1 ≤ k → 48 < get_or (decimal k) 0 0
decimal_leads k h = (each_number Leads small more (suc k) k (omega arith) h).1
  where
    small : (k : ℕ) → k < 10 → Leads k
    small k l h = let e = decimal-small k l in (omega (arith, ap length e), omega (arith, ap (λ (cs : List ℕ). get_or cs 0 0) e))

    more : (k : ℕ) → 10 ≤ k → Leads (k / 10) → Leads k
    more k l ih h =
        let (some, lead) = ih (omega arith) in
        let e = decimal_more k l in
        let last : List ℕ = (48 + k % 10) ∷ [] in (
          omega (arith, ap length e, length-append (decimal (k / 10)) last),
          omega (arith, ap (λ (cs : List ℕ). get_or cs 0 0) e, get_or-append (decimal (k / 10)) last 0 0 some),
        )

pub decimal-zero : decimal 0 ≡ 48 ∷ []
decimal-zero = decimal-small 0 (omega arith)

-- the two hex digits of a byte read back as the byte, and are digits
hex_of : (d : ℕ) → d < 16 → (hex_value (hex_digit d) ≡ d) × (is_hex_digit (hex_digit d) ≡ true)
unfolding hex_value is_hex_digit ◌or◌
hex_of d h = ⊎_elim high low (le_cases 10 d)
  where
    low : d < 10 → (hex_value (hex_digit d) ≡ d) × (is_hex_digit (hex_digit d) ≡ true)
    low l = rw (hex_digit_low d l, digit_of d l) (omega arith, refl)

    high : 10 ≤ d → (hex_value (hex_digit d) ≡ d) × (is_hex_digit (hex_digit d) ≡ true)
    high l = rw (hex_digit_high d l, letter_of d l h) (omega arith, and_intro (le-leb 97 (87 + d) (omega arith)) (le-leb (87 + d) 102 (omega arith)))

pub hex_reads : (k : ℕ) → k < 256 → hex_in (hex_byte k) ≡ k
unfolding hex_in hex_from hex_byte
hex_reads k h =
    let high = (hex_of (k / 16) (omega arith)).0 in
    let low = (hex_of (k % 16) (omega arith)).0 in
    omega (arith, high, low)

pub hex_digits : (k : ℕ) → k < 256 → all is_hex_digit (hex_byte k) ≡ true
unfolding all hex_byte
hex_digits k h = and_intro (hex_of (k / 16) (omega arith)).1 (and_intro (hex_of (k % 16) (omega arith)).1 refl)

-- no other byte is a hex digit: each is how a number below 16 is written
pub hex_written : (c : ℕ) → is_hex_digit c ≡ true → (d : ℕ) × (d < 16) × (hex_digit d ≡ c)
unfolding is_hex_digit is_digit
hex_written c h = ⊎_elim digit letter (or_cases (is_digit c) (leb 97 c and leb c 102) h)
  where
    digit : leb 48 c and leb c 57 ≡ true → (d : ℕ) × (d < 16) × (hex_digit d ≡ c)
    digit t =
        let low = leb-true 48 c (and_left (leb 48 c) (leb c 57) t) in
        let high = leb-true c 57 (and_right (leb 48 c) (leb c 57) t) in
        (c - 48, omega arith, hex_digit_low (c - 48) (omega arith) ∙ omega arith)

    letter : leb 97 c and leb c 102 ≡ true → (d : ℕ) × (d < 16) × (hex_digit d ≡ c)
    letter t =
        let low = leb-true 97 c (and_left (leb 97 c) (leb c 102) t) in
        let high = leb-true c 102 (and_right (leb 97 c) (leb c 102) t) in
        (c - 87, omega arith, hex_digit_high (c - 87) (omega arith) ∙ omega arith)

-- computed
word_example : ascii "sat 1\n" ≡ 115 ∷ 97 ∷ 116 ∷ 32 ∷ 49 ∷ 10 ∷ []
word_example = refl

decimal_examples :
    (decimal 0 ≡ ascii "0") × (decimal 9 ≡ ascii "9") × (decimal 10 ≡ ascii "10") × (decimal 64002 ≡ ascii "64002")
    × (decimal 18446744073709551615 ≡ ascii "18446744073709551615")
unfolding decimal decimal_within
decimal_examples = (refl, refl, refl, refl, refl)

hex_examples : (hex_byte 0 ≡ ascii "00") × (hex_byte 10 ≡ ascii "0a") × (hex_byte 160 ≡ ascii "a0") × (hex_byte 255 ≡ ascii "ff")
unfolding hex_byte hex_digit
hex_examples = (refl, refl, refl, refl)
