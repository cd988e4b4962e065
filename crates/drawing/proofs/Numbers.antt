-- A number in decimal: how many digits there are, and how they are read.
use Prim.Native.Nat.{ℕ, zero, suc, ◌+◌, ◌-◌, ◌/◌, ◌%◌, ◌≤◌, ◌<◌}
use native.Mathlib.Omega.{arith}
use mathlib.Core.Path.{◌≡◌, refl, ap, ◌∙◌}
use mathlib.Core.Logic.{⊎_elim}
use mathlib.Core.Bool.{true}
use mathlib.Core.List.{List, [], ◌∷◌, ◌++◌}
use mathlib.Core.Option.{none, some}
use lib.ListN.{length, length-append}
use borrow.Author.Tests.{le-leb}
use Rattle.theory.proofs.Basics.Search.{and_intro}
use Rattle.theory.proofs.Basics.Compare.{le_cases}
use Rattle.text.specs.Text.{decimal, is_digit}
use Rattle.text.proofs.Digits.{decimal-small, decimal_more}
use Rattle.drawing.specs.Reader.{Read, read, at_digit, step, run}

pub decimal-pair : (b : ℕ) → b < 100 → length (decimal b) ≤ 2
decimal-pair b h =
    ⊎_elim
    (λ ten. omega (arith, ap length (decimal_more b ten), length-append (decimal (b / 10)) ((48 + b % 10) ∷ []), ap length (decimal-small (b / 10) (omega arith))))
    (λ small. omega (arith, ap length (decimal-small b small)))
    (le_cases 10 b)

pub run-append : (r : Read) (xs ys : List ℕ) → run r (xs ++ ys) ≡ run (run r xs) ys
unfolding run
run-append r [] ys = refl
run-append r (x ∷ xs) ys = run-append (step r x) xs ys

digit : (d : ℕ) → d < 10 → is_digit (48 + d) ≡ true
unfolding is_digit
digit d h = and_intro (le-leb 48 (48 + d) (omega arith)) (le-leb (48 + d) 57 (omega arith))

step_digit : (r : Read) (d : ℕ) → d < 10 → step r (48 + d) ≡ at_digit d r
unfolding step
step_digit r d h = rw (digit d h) (ap (λ (x : ℕ). at_digit x r) (less))
  where
    less : 48 + d - 48 ≡ d
    less = omega arith

module _ (ts : List ℕ) (ls : List (List ℕ)) (bs ks : List ℕ) (f : ℕ) where
  -- the reader with this number
  abbrev at : ℕ → Read
  at x = read (some x) ts ls bs ks f

  abbrev empty : Read
  empty = read none ts ls bs ks f

  -- `below` is a bound to recurse on
  number_below : (below b : ℕ) → b < below → run empty (decimal b) ≡ at b
  unfolding run
  number_below zero b h = absurd (omega arith)
  number_below (suc below) b h =
      ⊎_elim
      (λ ten.
      ap (run empty) (decimal_more b ten)
      ∙ run-append empty (decimal (b / 10)) ((48 + b % 10) ∷ [])
      ∙ ap (λ (r : Read). step r (48 + b % 10)) (number_below below (b / 10) (omega arith))
      ∙ step_digit (at (b / 10)) (b % 10) (omega arith)
      ∙ ap at (omega arith))
      (λ small. ap (run empty) (decimal-small b small) ∙ step_digit empty b small ∙ ap at (omega arith))
      (le_cases 10 b)

  pub number_read : (b : ℕ) → run empty (decimal b) ≡ at b
  number_read b = number_below (suc b) b (omega arith)
