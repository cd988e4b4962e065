-- One literal taken, as the code reads it through the array of representatives.
use Prim.Native.Nat.{ℕ, ◌≤◌}
use native.Mathlib.Omega.{arith}
use mathlib.Core.Path.{◌≡◌, sym, ap, ap₂, ◌∙◌, subst}
use mathlib.Core.Bool.{Bool, true, false, cond}
use mathlib.Core.List.{List}
use lib.Dec.{eqb}
use Rattle.logic.specs.Search.{◌and◌, ◌or◌}
use Rattle.logic.specs.Query.{Literal}
use Rattle.logic.specs.Facts.{Facts, Joined, unjoined, and_then, join, add_reach, reach_each}
use Rattle.theory.proofs.Basics.Compare.{cond-true, cond-false}
use Rattle.link_rows.specs.Cube.{cube}
use Rattle.facts.specs.Path.{path_of}
use Rattle.facts.specs.declared.Facts as code
use Rattle.facts.proofs.Path.{add_reach_rows}
use Rattle.joins.proofs.Joins.{and_then_at, and_then-unjoined}
use Rattle.plain_literals.specs.Taken.{path_by, join_one, same, Bounded}
use Rattle.plain_literals.proofs.Each.{reach_one}

-- a number that is read for a term is what the term became
pub read_bounded : (s : Facts) → Bounded s → (t a : ℕ) → t ≤ 16 → a ≡ s.rep t → a ≤ 16
read_bounded s b t a h e = omega (arith, e, b.within t h)

-- the numbers a and b are read for the terms of a literal
module _ (s : Facts) (l : Literal) (a b : ℕ) (e : a ≡ s.rep l.left) (f : b ≡ s.rep l.right) (p : l.plain ≡ true) where
  pub join-plain : (n : ℕ) (ps : List (ℕ × ℕ)) → and_then (record { pairs = ps; facts = s }) (join n a b) ≡ and_then (record { pairs = ps; facts = s }) (join_one n l)
  unfolding join_one
  join-plain n ps = and_then_at (record { pairs = ps; facts = s }) (join n a b) (join_one n l) (ap₂ (λ a b. join n a b s) e f ∙ sym (cond-true _ _ p))

-- the fact is added to the rows of its link
module _ (s : code.Facts) (l : Literal) (a b : ℕ) (e : a ≡ (path_of s).rep l.left) (f : b ≡ (path_of s).rep l.right) (p : l.plain ≡ true) where
  pub reach-plain : (by : ℕ) → by ≡ l.link → by ≤ (path_of s).links → (later : List ℕ) →
      cube later ≡ (λ j x y. cube s.reach j x y or (eqb j by and eqb x a and eqb y b)) → path_of (record s { reach = later }) ≡ reach_one l (path_of s)
  unfolding reach_one path_of
  reach-plain by d h later added =
      add_reach_rows s.single s.rep s.link s.reach later by a b h added ∙ (λ i. add_reach (d i) (e i) (f i) (path_of s)) ∙ sym (cond-true _ _ p)

-- facts in whose place others came, of which the reachability alone differs
abbrev pub Kept : code.Facts → code.Facts → Type 0
Kept s t = t ≡ record s { reach = t.reach }

pub kept_more : (s t u : code.Facts) (rows : List ℕ) → Kept s t → u ≡ record t { reach = rows } → Kept s u
kept_more s t u rows e h = rw h (ap (λ (x : code.Facts). record x { reach = rows }) e)

module _ (s t : code.Facts) (e : Kept s t) where
  pub kept_bounded : Bounded (path_of s) → Bounded (path_of t)
  unfolding path_of
  kept_bounded b = subst (λ (x : code.Facts). Bounded (path_of x)) (sym e) (record { within = b.within })

  pub kept_links : (path_of t).links ≡ (path_of s).links
  unfolding path_of
  kept_links = ap (λ (x : code.Facts). cond x.single 1 3) e

  -- what is told of the arrays is told of the path
  pub kept_added :
      (ls : List Literal) (links : ℕ) → ((single : Bool) → cond single 1 3 ≡ links → path_by single t ≡ reach_each ls (path_by single s)) →
      (path_of s).links ≡ links → path_of t ≡ reach_each ls (path_of s)
  unfolding path_of
  kept_added ls links told h = ap (λ (single : Bool). path_by single t) (ap (λ (x : code.Facts). x.single) e) ∙ told s.single h

-- a negated literal is passed over
module _ (l : Literal) (p : l.plain ≡ false) where
  pub join_negated : (n : ℕ) (j : Joined) → j ≡ and_then j (join_one n l)
  unfolding join_one
  join_negated n j = sym (and_then_at j (join_one n l) unjoined (cond-false _ _ p) ∙ and_then-unjoined j)

  pub reach_negated : (s : Facts) → s ≡ reach_one l s
  unfolding reach_one
  reach_negated s = sym (cond-false _ _ p)

-- a plain equality says that its terms are equal
pub plain_is : (l : Literal) (x y : ℕ) → l.link ≡ 1 → l.plain ≡ true → x ≡ l.left → y ≡ l.right → l ≡ same x y
plain_is l x y one p e f = λ i. record { plain = p i; link = one i; left = sym e i; right = sym f i }
