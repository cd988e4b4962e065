-- A search that gives 0 where it finds nothing.
use Prim.Native.Nat.{ℕ, ◌≤◌}
use native.Mathlib.Omega.{arith}
use mathlib.Core.Path.{◌≡◌, refl}
use mathlib.Core.Bool.{Bool, true}
use mathlib.Core.List.{List, Memᴰ}
use mathlib.Core.Option.{Option, none, some, get_or}
use Rattle.logic.specs.Search.{find}
use Rattle.theory.proofs.Basics.Search.{true-false, find-some, find_none}

module _ (q : ℕ → Bool) (xs : List ℕ) where
  -- a number other than 0 was found
  pub found_positive : 1 ≤ get_or (find q xs) 0 → Memᴰ (get_or (find q xs) 0) xs × (q (get_or (find q xs) 0) ≡ true)
  found_positive l = go (find q xs) refl l
    where
      go : (o : Option ℕ) → find q xs ≡ o → 1 ≤ get_or o 0 → Memᴰ (get_or o 0) xs × (q (get_or o 0) ≡ true)
      go none e l = absurd (omega arith)
      go (some a) e l = find-some q xs a e

  -- there was one to find
  pub found_of : (a : ℕ) → Memᴰ a xs → q a ≡ true → Memᴰ (get_or (find q xs) 0) xs × (q (get_or (find q xs) 0) ≡ true)
  found_of a m h = go (find q xs) refl
    where
      go : (o : Option ℕ) → find q xs ≡ o → Memᴰ (get_or o 0) xs × (q (get_or o 0) ≡ true)
      go none e = absurd (true-false h (find_none q a e m))
      go (some b) e = find-some q xs b e
