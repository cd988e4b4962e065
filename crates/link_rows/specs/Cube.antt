-- The relations of all links in one array, 17 rows a link: that of a and b by link k is bit b of row a of the k-th 17.
use Rattle.std.specs.Prelude.{ℕ, ◌+◌, ◌-◌, ◌*◌, Bool, List, get_or, ltb}
use Rattle.logic.specs.Search.{◌and◌}
use Rattle.rows.specs.Square.{row_of}

-- links are numbered from 1: 0 has no facts
unfoldable pub cube : List ℕ → ℕ → ℕ → ℕ → Bool
cube rows k a b = (ltb 0 k and ltb a 17) and row_of (get_or rows (17 * (k - 1) + a) 0) b
