-- The rows that are read of a link of a path.
use Prim.Native.Nat.{ℕ, ◌≤◌}
use native.Mathlib.Omega.{arith}
use mathlib.Core.Path.{◌≡◌, sym}
use mathlib.Core.Bool.{Bool, true, false, cond}
use mathlib.Core.List.{List}
use Rattle.logic.specs.Facts.{Facts}
use Rattle.logic.specs.Rules.{Rule, Triple, move, applies}
use Rattle.theory.proofs.Paths.Applies.{has_link_range, applies_linked}
use Rattle.rows.specs.Square.{square}
use Rattle.link_rows.specs.Cube.{cube}
use Rattle.link_rows.specs.declared.Link.{Link}
use Rattle.facts.specs.Path.{path_of, HasLink}
use Rattle.facts.specs.declared.Facts as path
use Rattle.facts.proofs.Path.{graph_own}
use Rattle.units.specs.Graphs.{RowsOf}

-- a path has three links at most
pub links_few : (s : path.Facts) (k : ℕ) → HasLink (path_of s) k → k ≤ 3
unfolding path_of
links_few s k h = omega (arith, few s.single)
  where
    few : (b : Bool) → cond b 1 3 ≤ 3
    few true = omega arith
    few false = omega arith

-- Links of a path: those that are counted, and one by which a rule applies
pub link_counted : (s : path.Facts) (total k : ℕ) → total ≡ cond s.single 1 3 → 1 ≤ k → k ≤ total → HasLink (path_of s) k
unfolding path_of
link_counted s total k e h l = (h, omega (arith, e, l))

pub applies_by : (n : ℕ) (s : Facts) (k : ℕ) (r : Rule) (t : Triple) → applies n s (move k r t) ≡ true → HasLink s k
applies_by n s k r t h = has_link_range s.links k r t (applies_linked n s (move k r t) h)

-- the rows that are read of a link are those of the path
pub rows_of : (s : path.Facts) (k : Link) (link reach : List ℕ) → HasLink (path_of s) k.0 → square link ≡ cube s.link k.0 → square reach ≡ cube s.reach k.0 →
    RowsOf (path_of s) k link reach
unfolding path_of
rows_of s k link reach h l m = (h, sym (graph_own s.single s.link s.reach k.0 h.1 link reach l m))
