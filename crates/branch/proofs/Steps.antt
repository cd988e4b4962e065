-- What a branch comes to: its alternative, joined or added, behind no pairs.
use Prim.Native.Nat.{ℕ, ◌≤◌}
use native.Mathlib.Omega.{arith}
use mathlib.Core.Path.{◌≡◌, sym, ap, ◌∙◌}
use mathlib.Core.List.{List, []}
use Rattle.logic.specs.Facts.{Facts, Joined, unjoined, and_then, join, add_reach}
use Rattle.logic.specs.Rules.{Fact, equal, reaches, branch}
use Rattle.joins.specs.Pairs.{Fits}
use Rattle.joins.proofs.Joins.{join-pairs, none_before}
use Rattle.alternatives.specs.Answers.{fact_of}
use Rattle.alternatives.specs.declared.Fact as code

pub branch_fits : (n : ℕ) (s : Facts) (c : Fact) → n ≤ 16 → Fits (branch n s c)
unfolding branch unjoined
branch_fits n s (equal a b) h = omega (arith, join-pairs n a b s)
branch_fits n s (reaches i a b) h = omega arith

-- a path behind no pairs
pub emptied : (ps : List (ℕ × ℕ)) (s : Facts) → ps ≡ [] → record { pairs = ps; facts = s } ≡ unjoined s
unfolding unjoined
emptied ps s e = ap (λ (p : List (ℕ × ℕ)). record { pairs = p; facts = s }) e

-- a single join, behind none
module _ (n a b : ℕ) (s : Facts) (j : Joined) (alone : j ≡ unjoined s) where
  pub join_alone : and_then j (join n a b) ≡ join n a b s
  join_alone = ap (λ (i : Joined). and_then i (join n a b)) alone ∙ none_before s (join n a b)

  pub alone_fits : n ≤ 16 → Fits (and_then j (join n a b))
  alone_fits h = rw join_alone (omega (arith, join-pairs n a b s))

-- the branch is the alternative, joined or added
module _ (k n : ℕ) (s : Facts) (f : code.Fact) (c : Fact) (is : fact_of k f ≡ c) (j : Joined) where
  pub made_equal : (a b : ℕ) → fact_of k f ≡ equal a b → j ≡ join n a b s → j ≡ branch n s c
  unfolding branch
  made_equal a b e h = h ∙ ap (branch n s) (sym e ∙ is)

  pub made_reaches : (a b : ℕ) → fact_of k f ≡ reaches k a b → j ≡ unjoined (add_reach k a b s) → j ≡ branch n s c
  unfolding branch
  made_reaches a b e h = h ∙ ap (branch n s) (sym e ∙ is)
