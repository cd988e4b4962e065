-- The pairs that the code hands back, as the definitions'.
use Rattle.std.specs.Prelude.{ℕ, ◌≤◌, List, map, length, get_or}
use Rattle.logic.specs.Search.{from}
use Rattle.logic.specs.Facts.{Joined}
use Rattle.facts.specs.Path.{path_of}
use Rattle.joins.specs.declared.Pairs.{Pairs}
use Rattle.facts.specs.declared.Facts as code
use Rattle.joins.specs.declared.Joined as joined

-- the pair at a place: the term kept, and the one replaced
abbrev pub pair_at : List (ℕ × ℕ) → ℕ → ℕ × ℕ
pair_at entries i = get_or entries i (0, 0)

-- so many pairs of an array
abbrev pub pairs_in : List (ℕ × ℕ) → ℕ → List (ℕ × ℕ)
pairs_in entries count = map (pair_at entries) (from count 0)

unfoldable pub pairs_of : Pairs → List (ℕ × ℕ)
pairs_of p = pairs_in p.entries p.count

-- pairs that were joined, and the facts then
abbrev pub joined_as : Pairs → code.Facts → Joined
joined_as pairs s = record { pairs = pairs_of pairs; facts = path_of s }

abbrev pub joined_of : joined.Joined → Joined
joined_of j = joined_as j.pairs j.facts

-- the array has room for the pairs
abbrev pub Fits : Joined → Type 0
Fits j = length j.pairs ≤ 17
