-- The branch that the code makes is the one of the definition.
use Prim.Native.Nat.{ℕ, zero, suc, ◌<◌}
use native.Mathlib.Omega.{arith}
use mathlib.Core.Path.{◌≡◌, refl, sym, ap, ◌∙◌, subst}
use mathlib.Core.List.{List, [], ◌∷◌, map}
use lib.ListN.{length, get_or, length-map}
use Rattle.logic.specs.Query.{Query, term_count}
use Rattle.logic.specs.Facts.{Facts}
use Rattle.logic.specs.Rules.{Rule, triple, move, Fact, equal, alternatives, branch, add, branches}
use Rattle.facts.specs.Path.{HasLink}
use Rattle.alternatives.specs.Alternatives.{count_of, alternative_at}
use Rattle.alternatives.proofs.Alternatives.{count_is, alternative_is}

get_d_map : {A B : Type 0} (f : A → B) (xs : List A) (i : ℕ) (d : A) (e : B) → i < length xs → get_or (map f xs) i e ≡ f (get_or xs i d)
get_d_map f [] i d e l = absurd (omega arith)
get_d_map f (x ∷ xs) zero d e l = refl
get_d_map f (x ∷ xs) (suc i) d e l = get_d_map f xs i d e (omega arith)

-- the arrays of a path are others, and the path is the same
module _ (p t : Facts) (same : p ≡ t) where
  pub same_linked : (k : ℕ) → HasLink t k → HasLink p k
  same_linked k h = subst (λ (s : Facts). HasLink s k) (sym same) h

  pub same_branch : (n k : ℕ) (r : Rule) (x y z i : ℕ) (u : Facts) → u ≡ (branch n p (alternative_at k n (p.graph k) r x y z i)).facts → u ≡ (branch n t (alternative_at k n (t.graph k) r x y z i)).facts
  same_branch n k r x y z i u e = e ∙ ap (λ (s : Facts). (branch n s (alternative_at k n (s.graph k) r x y z i)).facts) same

module _ (q : Query) (n : ℕ) (s : Facts) (l : ℕ) (r : Rule) (x y z : ℕ) (terms_are : n ≡ term_count q) where
  pub row-length : length (branches (term_count q) s (move l r (triple x y z))) ≡ count_of r z
  unfolding branches
  row-length = length-map (alternatives (term_count q) s.graph (move l r (triple x y z))) (add (term_count q) s) ∙ count_is l (term_count q) s.graph r x y z

  pub row_at : (i : ℕ) (t : Facts) → i < count_of r z → t ≡ (branch n s (alternative_at l n (s.graph l) r x y z i)).facts → t ≡ get_or (branches (term_count q) s (move l r (triple x y z))) i s
  unfolding branches add
  row_at i t in_row e =
      let cs : List Fact = alternatives (term_count q) s.graph (move l r (triple x y z)) in
      let long : i < length cs = omega (arith, count_is l (term_count q) s.graph r x y z) in
      e
      ∙ ap (λ (m : ℕ). (branch m s (alternative_at l m (s.graph l) r x y z i)).facts) terms_are
      ∙ ap (λ (c : Fact). (branch (term_count q) s c).facts) (sym (alternative_is l (term_count q) s.graph r x y z i (equal 0 0) in_row))
      ∙ sym (get_d_map (add (term_count q) s) cs i (equal 0 0) s long)
