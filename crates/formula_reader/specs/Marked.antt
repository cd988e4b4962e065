-- The literals that a conjunction names, as an array of marks: literal n of a letter has its mark at 64 times the letter's code, plus n.
use Rattle.std.specs.Prelude.{ℕ, ◌+◌, ◌*◌, ◌≤◌, ◌<◌, ◌≡◌, Bool, false, List, [], length, get_or, ltb}
use Rattle.logic.specs.Search.{◌or◌}
use Rattle.formula.specs.Grammar.{Letter, Formula}
use Rattle.formula.specs.Expansion.{Conjunction, expand}
use Rattle.formula.specs.Meaning.{names, AllPresent}
use Rattle.formula_reader.specs.Tree.{letter_code, Tree}

abbrev pub marked : List Bool → Letter → ℕ → Bool
marked marks l n = get_or marks (64 * letter_code l + n) false

-- the marks of a conjunction are added to those before
abbrev pub Marks : List Bool → Conjunction → List Bool → Type 0
Marks before c after = (l : Letter) (n : ℕ) → n < 64 → marked after l n ≡ marked before l n or names c l n

abbrev pub fits : Letter → ℕ → Bool
fits l n = ltb n 64

-- node i holds a formula of at most 64 conjunctions, of which this is one, counted from 0
pub record Picks (nodes : List ℕ) (i k : ℕ) (f : Formula) : Type 0 where
  pub tree : Tree nodes i f
  pub marks_fit : AllPresent fits f
  pub few : length (expand f) ≤ 64
  pub below : k < length (expand f)
  pub placed : i < 512

abbrev pub Pickable : List ℕ → ℕ → ℕ → Type 0
Pickable nodes i k = (f : Formula) × Picks nodes i k f

abbrev pub Picked : List ℕ → ℕ → ℕ → List Bool → List Bool → Type 0
Picked nodes i k before after = (length after ≡ length before) × ((f : Formula) → Picks nodes i k f → Marks before (get_or (expand f) k []) after)
