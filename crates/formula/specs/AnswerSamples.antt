-- Samples of the order of conjunctions, worked by hand from the words of 02, R-7.
use Rattle.std.specs.Prelude.{ℕ, ◌≡◌, [], ◌∷◌}
use Rattle.formula.specs.Grammar.{Letter, E, R, D, Formula, literal, both, either}
use Rattle.formula.specs.Expansion.{Name, expand}

unfoldable pub name : Letter → ℕ → Name
name l n = record { letter = l; place = n }

-- `E1` and `E2`, `R1` and `R2` as alternatives
unfoldable pub equals : Formula
equals = either (literal E 1) (literal E 2)

unfoldable pub reaches : Formula
reaches = either (literal R 1) (literal R 2)

pub record SamplesHold : Type 0 where
  -- "Alternatives expand left first, and an and varies its right side fastest.": `(E1|E2)&(R1|R2)`
  pub right_fastest : expand (both equals reaches) ≡ (name E 1 ∷ name R 1 ∷ []) ∷ (name E 1 ∷ name R 2 ∷ []) ∷ (name E 2 ∷ name R 1 ∷ []) ∷ (name E 2 ∷ name R 2 ∷ []) ∷ []
  -- `D1&(E1|E2)|R1|R2`
  pub left_first : expand (either (both (literal D 1) equals) reaches) ≡ (name D 1 ∷ name E 1 ∷ []) ∷ (name D 1 ∷ name E 2 ∷ []) ∷ (name R 1 ∷ []) ∷ (name R 2 ∷ []) ∷ []
