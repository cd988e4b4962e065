-- Formulas over literals of a query, names of any kind standing for nodes (03, "A way": "an and/or of literals about one link h").
use Rattle.std.specs.Prelude.{ℕ, Bool, true, false, not, cond, List, [], ◌∷◌, ◌++◌, map, eqb}
use Rattle.logic.specs.Search.{◌and◌, ◌or◌}
use Rattle.routine_logic.specs.Syntax.{Formula, forall}
use Rattle.routine_logic.specs.State.{State}
use Rattle.routine_logic.specs.Formulas.{reaches_by, holds, same_truth}
use Rattle.cut_theory.specs.Trees.{Tree, yes_tree, no_tree, flagged, same, differ, far, leads, both, either}
use Rattle.path_theory.specs.Points.{Point, state_at}

-- Literals, plain (true) or negated: two names are one node; by link i one reaches the other, or leads to it; flag j of a name is 1. A `forall` that is assumed
-- at a point stays as it is, with names for the `forall`s around it.
pub data Form (A : Type 0) : Type 0 where
  truth : Bool → Form A
  equals : Bool → A → A → Form A
  reach : Bool → ℕ → A → A → Form A
  next : Bool → ℕ → A → A → Form A
  bit : Bool → ℕ → A → Form A
  kept : Point → List A → Formula → Form A
  meet join : Form A → Form A → Form A

-- an `and`, and where it is denied an `or`
unfoldable pub junction : {A : Type 0} → Bool → Form A → Form A → Form A
junction b f g = cond b (meet f g) (join f g)

-- a tree about link i and flag j, plain or denied: "The negation is the dual"
unfoldable pub literals : {A : Type 0} → Bool → ℕ → ℕ → Tree A → Form A
literals b i j yes_tree = truth b
literals b i j no_tree = truth (not b)
literals b i j (flagged c a) = bit (same_truth b c) j a
literals b i j (same x y) = equals b x y
literals b i j (differ x y) = equals (not b) x y
literals b i j (far x y) = reach b i x y
literals b i j (leads x y) = next b i x y
literals b i j (both f g) = junction b (literals b i j f) (literals b i j g)
literals b i j (either f g) = junction (not b) (literals b i j f) (literals b i j g)

-- all of some
unfoldable pub conjunction : {A : Type 0} → List (Form A) → Form A
conjunction [] = truth true
conjunction (f ∷ fs) = meet f (conjunction fs)

-- the names that a formula speaks of
unfoldable pub names_of : {A : Type 0} → Form A → List A
names_of (truth b) = []
names_of (equals b x y) = x ∷ y ∷ []
names_of (reach b i x y) = x ∷ y ∷ []
names_of (next b i x y) = x ∷ y ∷ []
names_of (bit b j x) = x ∷ []
names_of (kept p e f) = e
names_of (meet f g) = names_of f ++ names_of g
names_of (join f g) = names_of f ++ names_of g

-- the same with other names
unfoldable pub renamed : {A B : Type 0} → (A → B) → Form A → Form B
renamed r (truth b) = truth b
renamed r (equals b x y) = equals b (r x) (r y)
renamed r (reach b i x y) = reach b i (r x) (r y)
renamed r (next b i x y) = next b i (r x) (r y)
renamed r (bit b j x) = bit b j (r x)
renamed r (kept p e f) = kept p (map r e) f
renamed r (meet f g) = meet (renamed r f) (renamed r g)
renamed r (join f g) = join (renamed r f) (renamed r g)

-- A formula in a heap g whose links are cut, names standing for nodes; what is kept is looked up in the state at the start, with the nodes that havocs give.
module _ {A : Type 0} (g start : State) (nodes : List ℕ) (node : A → ℕ) where
  unfoldable pub meets_form : Form A → Bool
  meets_form (truth b) = b
  meets_form (equals b x y) = same_truth b (eqb (node x) (node y))
  meets_form (reach b i x y) = same_truth b (reaches_by g i (node x) (node y))
  meets_form (next b i x y) = same_truth b (eqb (g.link i (node x)) (node y))
  meets_form (bit b j x) = same_truth b (g.field j (node x))
  meets_form (kept p e f) = holds (state_at start nodes p) (map node e) (forall f)
  meets_form (meet f h) = let rest : Bool = meets_form h in meets_form f and rest
  meets_form (join f h) = let rest : Bool = meets_form h in meets_form f or rest

-- The alternatives of a step ("one formula that is false in it is taken apart, a branch for each alternative"): each is some formulas; behind an alternative that
-- is a literal the other ones have its negation.
unfoldable pub negations : {A : Type 0} → Form A → List (Form A)
negations (truth b) = truth (not b) ∷ []
negations (equals b x y) = equals (not b) x y ∷ []
negations (reach b i x y) = reach (not b) i x y ∷ []
negations (next b i x y) = next (not b) i x y ∷ []
negations (bit b j x) = bit (not b) j x ∷ []
negations (kept p e f) = []
negations (meet f g) = []
negations (join f g) = []

unfoldable pub alternatives : {A : Type 0} → Form A → List (List (Form A))
alternatives (truth true) = [] ∷ []
alternatives (truth false) = []
alternatives (equals b x y) = (equals b x y ∷ []) ∷ []
alternatives (reach b i x y) = (reach b i x y ∷ []) ∷ []
alternatives (next b i x y) = (next b i x y ∷ []) ∷ []
alternatives (bit b j x) = (bit b j x ∷ []) ∷ []
alternatives (kept p e f) = (kept p e f ∷ []) ∷ []
alternatives (meet f g) = (f ∷ g ∷ []) ∷ []
alternatives (join f g) = (f ∷ []) ∷ (g ∷ negations f) ∷ []
