-- The digits of a number, one by one. Assumes nothing.
use Prim.Native.Nat.{ℕ, zero, suc, ◌+◌, ◌*◌, ◌/◌, ◌%◌, ◌≤◌, ◌<◌}
use native.Mathlib.Omega.{arith}
use mathlib.Core.Path.{◌≡◌, refl, sym, ap, ◌∙◌}
use mathlib.Core.Logic.{⊎_elim}
use mathlib.Core.List.{List, [], ◌∷◌, ◌++◌}
use lib.ListN.{length, length-append}
use borrow.Author.Tests.{lt-ltb, le-ltb}
use Rattle.theory.proofs.Basics.Compare.{le_cases}
use Rattle.text.specs.Text.{decimal_within, decimal, hex_digit, hex_byte}

-- A number below ten is one digit; of any other number the last digit stands behind those of its tenth.
within_small : (steps k : ℕ) → k < 10 → decimal_within (suc steps) k ≡ (48 + k) ∷ []
unfolding decimal_within
within_small steps k h = rw (lt-ltb k 10 h)

within_more : (steps k : ℕ) → 10 ≤ k → decimal_within (suc steps) k ≡ decimal_within steps (k / 10) ++ ((48 + k % 10) ∷ [])
unfolding decimal_within
within_more steps k h = rw (le-ltb k 10 h)

-- more steps than the number change nothing
within_enough : (m n k : ℕ) → k < m → k < n → decimal_within m k ≡ decimal_within n k
within_enough zero n k h l = absurd (omega arith)
within_enough (suc m) zero k h l = absurd (omega arith)
within_enough (suc m) (suc n) k h l =
    ⊎_elim
    (λ ten. within_more m k ten
    ∙ ap (λ (front : List ℕ). front ++ ((48 + k % 10) ∷ [])) (within_enough m n (k / 10) (omega arith) (omega arith))
    ∙ sym (within_more n k ten))
    (λ small. within_small m k small ∙ sym (within_small n k small))
    (le_cases 10 k)

pub decimal-small : (k : ℕ) → k < 10 → decimal k ≡ (48 + k) ∷ []
unfolding decimal
decimal-small k h = within_small k k h

pub decimal_more : (k : ℕ) → 10 ≤ k → decimal k ≡ decimal (k / 10) ++ ((48 + k % 10) ∷ [])
unfolding decimal
decimal_more k h =
    within_more k k h ∙ ap (λ (front : List ℕ). front ++ ((48 + k % 10) ∷ [])) (within_enough k (suc (k / 10)) (k / 10) (omega arith) (omega arith))

-- how many digits there are: a number of the machine has at most 20
unfoldable tens : ℕ → ℕ
tens zero = 1
tens (suc n) = 10 * tens n

decimal_short : (n k : ℕ) → k < tens (suc n) → length (decimal k) ≤ suc n
unfolding tens
decimal_short zero k h = omega (arith, ap length (decimal-small k (omega arith)))
decimal_short (suc n) k h =
    ⊎_elim
    (λ ten.
    let ih = decimal_short n (k / 10) (omega arith) in
    omega (arith, ap length (decimal_more k ten), length-append (decimal (k / 10)) ((48 + k % 10) ∷ [])))
    (λ small. omega (arith, ap length (decimal-small k small)))
    (le_cases 10 k)

pub decimal_machine : (k : ℕ) → k ≤ 18446744073709551615 → length (decimal k) ≤ 20
unfolding tens
decimal_machine k h = decimal_short 19 k (omega arith)

pub decimal_byte : (k : ℕ) → k < 256 → length (decimal k) ≤ 3
unfolding tens
decimal_byte k h = decimal_short 2 k (omega arith)

-- hex digits, below ten and from ten on
pub hex_digit_low : (d : ℕ) → d < 10 → hex_digit d ≡ 48 + d
unfolding hex_digit
hex_digit_low d h = rw (lt-ltb d 10 h)

pub hex_digit_high : (d : ℕ) → 10 ≤ d → hex_digit d ≡ 87 + d
unfolding hex_digit
hex_digit_high d h = rw (le-ltb d 10 h)

pub hex_two : (k : ℕ) → length (hex_byte k) ≡ 2
unfolding hex_byte
hex_two k = refl

pub hex_pair : {h l : ℕ} (k : ℕ) → h ≡ hex_digit (k / 16) → l ≡ hex_digit (k % 16) → h ∷ l ∷ [] ≡ hex_byte k
unfolding hex_byte
hex_pair k p q = rw (p, q)

-- the digits as they are written
pub decimal_one : {d : ℕ} (k : ℕ) → k < 10 → d ≡ 48 + k → d ∷ [] ≡ decimal k
decimal_one k h e = ap (λ (c : ℕ). c ∷ []) e ∙ sym (decimal-small k h)

pub decimal_last : {d : ℕ} (k : ℕ) → 10 ≤ k → d ≡ 48 + k % 10 → decimal (k / 10) ++ (d ∷ []) ≡ decimal k
decimal_last k h e = ap (λ (c : ℕ). decimal (k / 10) ++ (c ∷ [])) e ∙ sym (decimal_more k h)

pub decimal_tenth : (k : ℕ) → k ≤ 18446744073709551615 → length (decimal (k / 10)) ≤ 19
unfolding tens
decimal_tenth k h = decimal_short 18 (k / 10) (omega arith)
