-- How many rule steps are left at a path.
use Rattle.std.specs.Prelude.{ℕ, ◌-◌, ◌≤◌}
use Rattle.logic.specs.Query.{Query, term_count}
use Rattle.logic.specs.Facts.{Facts, start}
use Rattle.logic.specs.Walk.{limit}
use Rattle.logic.specs.Steps.{Steps}

-- Rule steps led to the path from the start, and `left` of those that a path can have are left.
pub record Ahead (q : Query) (s : Facts) (left : ℕ) : Type 0 where
  pub some : left ≤ limit q
  pub led : Steps (term_count q) (start q) (limit q - left) s
