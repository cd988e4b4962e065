-- A link fact added to one link after the other.
use Prim.Native.Nat.{ℕ, ◌+◌, ◌<◌}
use native.Mathlib.Omega.{arith}
use mathlib.Core.Path.{◌≡◌, refl, ap, ◌∙◌, fun_ext}
use mathlib.Core.Logic.{⊎_elim}
use mathlib.Core.Bool.{Bool, cond}
use mathlib.Core.List.{List}
use lib.Dec.{eqb, ltb}
use borrow.Author.Tests.{lt-ltb, le-ltb, eq-eqb, ne_eqb}
use Rattle.logic.specs.Search.{◌and◌, ◌or◌}
use Rattle.logic.specs.Facts.{add_links}
use Rattle.theory.proofs.Basics.Search.{or-false}
use Rattle.theory.proofs.Basics.Compare.{le_cases}
use Rattle.rows.proofs.Fill.{Filled, filled_old, filled_more}
use Rattle.link_rows.specs.Cube.{cube}
use Rattle.facts.specs.Path.{path_as}
use Rattle.facts.proofs.Path.{add_links_rows}

module _ (rows : List ℕ) (a b : ℕ) where
  -- the number 0 is no link, and gets nothing
  abbrev new : ℕ → ℕ → ℕ → Bool
  new j = cond (ltb 0 j) (λ x y. cube rows j x y or (eqb x a and eqb y b)) (cube rows j)

  -- the links below k have the fact, and the others are as they were
  abbrev pub AddedBelow : ℕ → List ℕ → Type 0
  AddedBelow k cur = Filled new (cube rows) k (cube cur)

  pub added_none : AddedBelow 1 rows
  added_none j = ⊎_elim (λ h. rw (lt-ltb j 1 (omega arith), le-ltb 0 j h)) (λ h. rw (le-ltb j 1 (omega arith))) (le_cases j 0)

  pub added_more : (cur later : List ℕ) (k : ℕ) → 0 < k → cube later ≡ (λ j x y. cube cur j x y or (eqb j k and eqb x a and eqb y b)) → AddedBelow k cur → AddedBelow (k + 1) later
  unfolding ◌and◌
  added_more cur later k h e m = filled_more new (cube rows) k (cube cur) (cube later) here there m
    where
      at : (j : ℕ) → cube later j ≡ (λ x y. cube cur j x y or (eqb j k and eqb x a and eqb y b))
      at j = ap (λ (f : ℕ → ℕ → ℕ → Bool). f j) e

      here : cube later k ≡ new k
      here = at k ∙ rw (eq-eqb k k refl, lt-ltb 0 k h, filled_old new (cube rows) k (cube cur) m)

      there : (j : ℕ) → (j ≡ k → ⊥) → cube later j ≡ cube cur j
      there j d = at j ∙ rw (ne_eqb j k d) (fun_ext (λ x. fun_ext (λ y. or-false (cube cur j x y))))

  added_all : (single : Bool) (rep reach cur : List ℕ) (k : ℕ) → cond single 1 3 < k → AddedBelow k cur → path_as single rep cur reach ≡ add_links a b (path_as single rep rows reach)
  added_all single rep reach cur k l m =
      add_links_rows single rep rows reach cur a b
      (λ j h o. m j ∙ rw (lt-ltb j k (omega (arith, o, l)), lt-ltb 0 j h))
      (λ j h. m j ∙ rw (lt-ltb j k (omega (arith, h, l)), le-ltb 0 j h))

  -- nothing else changes
  pub added_path : (single : Bool) (rep reach : List ℕ) (single' : Bool) (rep' reach' cur : List ℕ) (k : ℕ) → single' ≡ single → rep' ≡ rep → reach' ≡ reach →
      cond single 1 3 < k → AddedBelow k cur → path_as single' rep' cur reach' ≡ add_links a b (path_as single rep rows reach)
  added_path single rep reach single' rep' reach' cur k d e f l m = rw (d, e, f) (added_all single rep reach cur k l m)
