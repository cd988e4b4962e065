-- The conjunctions of a formula, in the order of their numbers (02, R-7).
use Rattle.std.specs.Prelude.{ℕ, List, [], ◌∷◌, ◌++◌, map}
use Rattle.logic.specs.Search.{flat_map}
use Rattle.formula.specs.Grammar.{Letter, Formula, literal, both, either}

-- a literal's name, and a conjunction of named literals
pub record Name : Type 0 where
  pub letter : Letter
  pub place : ℕ

abbrev pub Conjunction : Type 0
Conjunction = List Name

-- "Alternatives expand left first, and an and varies its right side fastest."
unfoldable pub expand : Formula → List Conjunction
expand (literal l n) = (record { letter = l; place = n } ∷ []) ∷ []
expand (either f g) = expand f ++ expand g
expand (both f g) = flat_map (λ c. map (λ d. c ++ d) (expand g)) (expand f)
