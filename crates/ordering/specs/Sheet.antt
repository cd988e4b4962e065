-- A precedence sheet: its bytes, what is refused of them, and its pairs (02, R-6).
use Rattle.std.specs.Prelude.{ℕ, ◌+◌, ◌*◌, Bool, List, map, length, get_or, drop, eqb, ltb, leb}
use Rattle.logic.specs.Search.{◌and◌, from, any, all}

-- "pairs of rule numbers, earlier then later"
pub record Pair : Type 0 where
  pub earlier : ℕ
  pub later : ℕ

-- "A sheet is a count (0 to 28) and that many pairs": the count, pair i from 0 on, and all of them.
abbrev pub count_of : List ℕ → ℕ
count_of sheet = get_or sheet 0 0

abbrev pub pair_at : List ℕ → ℕ → Pair
pair_at sheet i = record { earlier = get_or sheet (2 * i + 1) 0; later = get_or sheet (2 * i + 2) 0 }

unfoldable pub pairs : List ℕ → List Pair
pairs sheet = map (pair_at sheet) (from (count_of sheet) 0)

-- 15: "wrong length or count". An empty sheet has no count, and its length is not 1 more than twice 0.
unfoldable pub laid_out : List ℕ → Bool
laid_out sheet = leb (count_of sheet) 28 and eqb (length sheet) (2 * count_of sheet + 1)

-- 16: "a rule number not 1 to 8"
unfoldable pub is_rule : ℕ → Bool
is_rule r = ltb 0 r and leb r 8

unfoldable pub rules_only : List ℕ → Bool
rules_only sheet = all is_rule (drop 1 sheet)

-- a pair of the sheet leads from a to b
unfoldable pub paired : List Pair → ℕ → ℕ → Bool
paired ps a b = any (λ p. eqb p.earlier a and eqb p.later b) ps
