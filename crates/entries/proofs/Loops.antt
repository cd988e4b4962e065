-- Tests as a loop over the bytes meets them: what is left at i equals the whole.
use Prim.Native.Nat.{ℕ, ◌+◌, ◌≤◌, ◌<◌}
use native.Mathlib.Nat.{add_assoc}
use native.Mathlib.Numerals.{add-one}
use native.Mathlib.Omega.{arith}
use mathlib.Core.Path.{◌≡◌, ap, ◌∙◌}
use mathlib.Core.Bool.{Bool, true, false}
use mathlib.Core.List.{List, ◌∷◌}
use lib.ListN.{length, get_or, drop, drop_of_length-le}
use lib.Seq.{drop-cons}
use Rattle.logic.specs.Search.{◌or◌, any}

-- the bytes from i on begin with byte i
pub drop_next : (xs : List ℕ) (i : ℕ) → i < length xs → drop i xs ≡ get_or xs i 0 ∷ drop (i + 1) xs
drop_next xs i h = rw (add-one, drop-cons xs i 0)

-- and the next two, three and four bytes follow
module _ (xs : List ℕ) (i : ℕ) where
  pub drop_two : i + 2 ≤ length xs → drop i xs ≡ get_or xs i 0 ∷ get_or xs (i + 1) 0 ∷ drop (i + 2) xs
  drop_two h = drop_next xs i (omega arith) ∙ ap (λ (ys : List ℕ). get_or xs i 0 ∷ ys) (drop_next xs (i + 1) (omega arith) ∙ rw add_assoc)

  pub drop_three : i + 3 ≤ length xs → drop i xs ≡ get_or xs i 0 ∷ get_or xs (i + 1) 0 ∷ get_or xs (i + 2) 0 ∷ drop (i + 3) xs
  drop_three h =
      drop_two (omega arith) ∙ ap (λ (ys : List ℕ). get_or xs i 0 ∷ get_or xs (i + 1) 0 ∷ ys) (drop_next xs (i + 2) (omega arith) ∙ rw add_assoc)

  pub drop_four : i + 4 ≤ length xs → drop i xs ≡ get_or xs i 0 ∷ get_or xs (i + 1) 0 ∷ get_or xs (i + 2) 0 ∷ get_or xs (i + 3) 0 ∷ drop (i + 4) xs
  drop_four h =
      drop_three (omega arith)
      ∙ ap (λ (ys : List ℕ). get_or xs i 0 ∷ get_or xs (i + 1) 0 ∷ get_or xs (i + 2) 0 ∷ ys) (drop_next xs (i + 3) (omega arith) ∙ rw add_assoc)

module _ (p : ℕ → Bool) (xs : List ℕ) where
  pub any_end : (i : ℕ) → length xs ≤ i → any p (drop i xs) ≡ false
  unfolding any
  any_end i h = rw (drop_of_length-le xs h)

  pub any_here : (i : ℕ) → i < length xs → p (get_or xs i 0) ≡ true → any p (drop i xs) ≡ true
  unfolding any ◌or◌
  any_here i h e = rw (drop_next xs i h, e)

  pub any_next : (i : ℕ) → i < length xs → p (get_or xs i 0) ≡ false → any p (drop i xs) ≡ any p (drop (i + 1) xs)
  unfolding any ◌or◌
  any_next i h e = rw (drop_next xs i h, e)
