-- The stack in its array, and an alternative that is pushed number by number.
use Prim.Native.Nat.{ℕ, zero, suc, ◌+◌, ◌*◌, ◌-◌, ◌≤◌, ◌<◌}
use native.Mathlib.Omega.{arith}
use native.Mathlib.Numerals.{add-one}
use mathlib.Core.Path.{◌≡◌, refl, sym, ap, ◌∙◌}
use mathlib.Core.List.{List, ◌∷◌}
use lib.ListN.{length, get_or, take, drop, set, length-drop, drop_of_length-le}
use lib.Seq.{get_or-set_same, get_or-set_other, length-take-le}
use borrow.Author.Tests.{lt-ltb, le-ltb}
use Rattle.text.proofs.Writing.{left_first}
use Rattle.routine_reader.specs.Rows.{rows, choices, row, choice}
use Rattle.routine_reader.specs.Stack.{stack_of, pushed}

-- what lies below a number that is stored
pub stack_below : (a : List ℕ) (h c n : ℕ) → n ≤ h → stack_of (set a h c) n ≡ stack_of a n
unfolding stack_of
stack_below a h c zero l = refl
stack_below a h c (suc n) l = rw (get_or-set_other a h n c 0 (λ (e : n ≡ h). omega arith), stack_below a h c n (omega arith)) refl

pub stack_push : (a : List ℕ) (h c : ℕ) → h < length a → stack_of (set a h c) (h + 1) ≡ c ∷ stack_of a h
unfolding stack_of
stack_push a h c l =
    ap (stack_of (set a h c)) (add-one h) ∙ rw (get_or-set_same a h c 0 l, stack_below a h c h (omega arith)) refl

pub stack_top : (a : List ℕ) (h : ℕ) → 0 < h → stack_of a h ≡ get_or a (h - 1) 0 ∷ stack_of a (h - 1)
unfolding stack_of
stack_top a zero l = absurd (omega arith)
stack_top a (suc h) l = ap (λ (n : ℕ). get_or a n 0 ∷ stack_of a n) back
  where
    back : h ≡ suc h - 1
    back = omega arith

-- the numbers of an alternative

length-rows : length rows ≡ 1504
unfolding rows
length-rows = refl

pub row-length : (j : ℕ) → j < 94 → length (row j) ≡ 16
unfolding row
row-length j l = length-take-le 16 (drop (16 * j) rows) (omega (arith, length-rows, length-drop (16 * j) rows))

-- the part of the table that the code reads
pub row_part : (j : ℕ) (table : List ℕ) → table ≡ rows → take (16 * j + 16 - 16 * j) (drop (16 * j) table) ≡ row j
unfolding row
row_part j table e = ap (λ (n : ℕ). take n (drop (16 * j) table)) size ∙ ap (λ (xs : List ℕ). take 16 (drop (16 * j) xs)) e
  where
    size : 16 * j + 16 - 16 * j ≡ 16
    size = omega arith

module _ (xs stack : List ℕ) (i : ℕ) where
  pub pushed_end : length xs ≤ i → stack ≡ pushed (drop i xs) stack
  unfolding pushed
  pushed_end l = sym (ap (λ (ys : List ℕ). pushed ys stack) (drop_of_length-le xs {i = i} l))

  module _ (c : ℕ) (l : i < length xs) (e : get_or xs i 0 ≡ c) where
    first : pushed (drop i xs) stack ≡ pushed (c ∷ drop (i + 1) xs) stack
    first = ap (λ (ys : List ℕ). pushed ys stack) (left_first xs i l ∙ ap (λ (x : ℕ). x ∷ drop (i + 1) xs) e)

    pub pushed-zero : c < 2 → stack ≡ pushed (drop i xs) stack
    unfolding pushed
    pushed-zero z = sym (first ∙ rw (lt-ltb c 2 z) refl)

    pub pushed_next : 2 ≤ c → pushed (drop (i + 1) xs) (c ∷ stack) ≡ pushed (drop i xs) stack
    unfolding pushed
    pushed_next n = sym (first ∙ rw (le-ltb c 2 n) refl)

pub choice_in : (r k : ℕ) → r < 42 → get_or choices (45 * r + k) 0 ≡ choice r k
unfolding choice
choice_in r k l = rw (lt-ltb r 42 l) refl

pub choice_out : (r k : ℕ) → 42 ≤ r → 0 ≡ choice r k
unfolding choice
choice_out r k l = rw (le-ltb r 42 l) refl
