-- Formulas as nodes in an array: four numbers a node, its kind, two more by its kind, and how many conjunctions it has.
use Rattle.std.specs.Prelude.{ℕ, ◌+◌, ◌*◌, ◌<◌, ◌≡◌, Bool, cond, List, length, get_or, set, ltb, leb}
use Rattle.logic.specs.Search.{◌and◌}
use Rattle.formula.specs.Grammar.{Letter, E, R, D, B, Formula, literal, both, either}
use Rattle.formula.specs.Expansion.{expand}

unfoldable pub letter_code : Letter → ℕ
letter_code E = 0
letter_code R = 1
letter_code D = 2
letter_code B = 3

-- "more than 64 conjunctions" are not told apart
unfoldable pub capped : ℕ → ℕ
capped n = cond (ltb 64 n) 65 n

unfoldable pub conjunctions : Formula → ℕ
conjunctions f = capped (length (expand f))

-- the array with node i written
unfoldable pub put_node : List ℕ → ℕ → ℕ → ℕ → ℕ → ℕ → List ℕ
put_node nodes i kind a b count = set (set (set (set nodes (4 * i) kind) (4 * i + 1) a) (4 * i + 2) b) (4 * i + 3) count

pub record Node (nodes : List ℕ) (i kind a b count : ℕ) : Type 0 where
  pub kind_is : get_or nodes (4 * i) 0 ≡ kind
  pub first_is : get_or nodes (4 * i + 1) 0 ≡ a
  pub second_is : get_or nodes (4 * i + 2) 0 ≡ b
  pub count_is : get_or nodes (4 * i + 3) 0 ≡ count

-- Node i is the root of a formula: 0 to 3 is a literal's letter, with its place; 4 is an and, 5 an or, with two nodes before it.
pub data Tree (nodes : List ℕ) : ℕ → Formula → Type 0 where
  leaf : {i : ℕ} (l : Letter) (n : ℕ) → Node nodes i (letter_code l) n 0 1 → Tree nodes i (literal l n)
  conjoined : {i : ℕ} {f g : Formula} (a b : ℕ) → Node nodes i 4 a b (conjunctions (both f g)) → a < i → b < i → Tree nodes a f → Tree nodes b g → Tree nodes i (both f g)
  disjoined : {i : ℕ} {f g : Formula} (a b : ℕ) → Node nodes i 5 a b (conjunctions (either f g)) → a < i → b < i → Tree nodes a f → Tree nodes b g → Tree nodes i (either f g)

-- the literals that a query with so many of each section has
unfoldable pub has : List ℕ → Letter → ℕ → Bool
has counts l n = leb 1 n and leb n (get_or counts (letter_code l) 0)
