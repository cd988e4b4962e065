-- Terms and formulas in a state (03, "What a text means"). That `reaches` and `between` are those of 01 and of R-10 is a theorem
-- (`reaches_means`, `between_means` of crates/routine_theory).
use Rattle.std.specs.Prelude.{ℕ, ◌≡◌, Bool, true, false, not, List, [], ◌∷◌, eqb, leb, ltb, get_or}
use Rattle.logic.specs.Search.{◌and◌, ◌or◌, from, all}
use Rattle.between_search.specs.Tests.{step_count}
use Rattle.routine_logic.specs.Syntax.{Base, null, variable, bound, Term, Formula, always, never, equal, unequal, reaches, between, flag, negation, both, either, implies, same, forall, Clause}
use Rattle.routine_logic.specs.State.{State, null_node}

-- The nodes of the names of the `forall`s around, the innermost first.
abbrev pub Bound : Type 0
Bound = List ℕ

-- "A term is the node that its links lead to; of NULL that is NULL."
unfoldable pub base_node : State → Bound → Base → ℕ
base_node s e null = null_node
base_node s e (variable x) = s.variable x
base_node s e (bound i) = get_or e i null_node

unfoldable pub follow : State → List ℕ → ℕ → ℕ
follow s [] v = v
follow s (i ∷ is) v = follow s is (s.link i v)

unfoldable pub node : State → Bound → Term → ℕ
node s e t = follow s t.links (base_node s e t.base)

-- "`reaches`: zero or more links": fewer than there are nodes, if any. `step_count f k v w` is the least number of links from v to w, or k where
-- it is none of the k numbers from 0 on.
unfoldable pub reaches_by : State → ℕ → ℕ → ℕ → Bool
reaches_by s i v w = ltb (step_count (s.link i) s.size v w) s.size

-- "`between(x, y, z)`: R-10's": "following links from x both are met, and y's least step count is not above z's"
unfoldable pub between_by : State → ℕ → ℕ → ℕ → ℕ → Bool
between_by s i x y z =
    reaches_by s i x y and reaches_by s i x z and leb (step_count (s.link i) s.size x y) (step_count (s.link i) s.size x z)

unfoldable pub same_truth : Bool → Bool → Bool
same_truth true b = b
same_truth false b = not b

-- a formula in a state: "`forall` ranges over all nodes"
unfoldable pub holds : State → Bound → Formula → Bool
holds s e always = true
holds s e never = false
holds s e (equal t u) = eqb (node s e t) (node s e u)
holds s e (unequal t u) = not (eqb (node s e t) (node s e u))
holds s e (reaches i t u) = reaches_by s i (node s e t) (node s e u)
holds s e (between i t u v) = between_by s i (node s e t) (node s e u) (node s e v)
holds s e (flag j t) = s.field j (node s e t)
holds s e (negation f) = not (holds s e f)
holds s e (both f g) = let rest : Bool = holds s e g in holds s e f and rest
holds s e (either f g) = let rest : Bool = holds s e g in holds s e f or rest
holds s e (implies f g) = let rest : Bool = holds s e g in not (holds s e f) or rest
holds s e (same f g) = same_truth (holds s e f) (holds s e g)
holds s e (forall f) = all (λ v. holds s (v ∷ e) f) (from s.size 1)

-- all of some clauses: "any state that meets all its `requires`", "all its invariants"
unfoldable pub meets : State → List Clause → Bool
meets s cs = all (λ c. holds s [] c.formula) cs
