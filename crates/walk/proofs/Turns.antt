-- The branches of a rule, walked one after the other: what stands after some of them, and how the walk ends.
use Prim.Native.Nat.{ℕ, ◌≤◌}
use mathlib.Core.Path.{◌≡◌, refl, sym, ap, ◌∙◌}
use mathlib.Core.List.{List, [], ◌∷◌, append-nil}
use lib.ListN.{length, drop}
use Rattle.logic.specs.Facts.{Facts, Line}
use Rattle.logic.specs.Rules.{Fact}
use Rattle.logic.specs.Walk.{Ending, refutation, after, walk_each}
use Rattle.walk.specs.Lines.{count_all, put_all}
use Rattle.walk.proofs.Walks.{after_none, each_end}

-- After i branches, all refuted by lines that are written and counted.
pub record Turn (n : ℕ) (w : Facts → Ending) (s : Facts) (cs : List Fact) (before : List ℕ) (c : ℕ) (i : ℕ) (bytes : List ℕ) (count : ℕ) : Type 0 where
  pub lines : List Line
  pub left : walk_each n w s cs ≡ after lines (walk_each n w s (drop i cs))
  pub written : bytes ≡ put_all before c lines
  pub counts : count ≡ count_all c lines

module _ (n : ℕ) (w : Facts → Ending) (s : Facts) (cs : List Fact) (before : List ℕ) (c : ℕ) where
  pub turn_first : Turn n w s cs before c 0 before c
  unfolding put_all count_all
  turn_first = record { lines = []; left = sym (after_none (walk_each n w s cs)); written = refl; counts = refl }

  -- all branches are refuted
  pub turn_whole : (i : ℕ) (bytes : List ℕ) (count : ℕ) (t : Turn n w s cs before c i bytes count) → length cs ≤ i → (l : Line) → after (l ∷ []) (walk_each n w s cs) ≡ refutation (l ∷ t.lines)
  unfolding after
  turn_whole i bytes count t past l =
      ap (after (l ∷ [])) (t.left ∙ ap (after t.lines) (each_end n w s cs i past))
      ∙ ap (λ (ls : List Line). refutation (l ∷ ls)) (append-nil t.lines)
