-- One literal taken into a path, and the terms that the code's arrays have room for.
use Rattle.std.specs.Prelude.{ℕ, ◌≤◌, ◌<◌, Bool, true, cond, List}
use Rattle.logic.specs.Query.{Literal, literal}
use Rattle.logic.specs.Facts.{Facts, Joined, unjoined, join}
use Rattle.facts.specs.Path.{path_of}
use Rattle.facts.specs.declared.Facts as code
use Rattle.query.specs.LaysOut.{literal_in}

-- the path that these arrays hold, of a single link or of three
abbrev pub path_by : Bool → code.Facts → Facts
path_by single s = path_of (record s { single = single })

-- a plain equality is joined, read through `rep`
unfoldable pub join_one : ℕ → Literal → Facts → Joined
join_one n l s = cond l.plain (join n (s.rep l.left) (s.rep l.right) s) (unjoined s)

-- that two terms are equal
abbrev pub same : ℕ → ℕ → Literal
same t u = literal true t u

-- each number up to 16 was replaced by such a one
pub record Bounded (s : Facts) : Type 0 where
  pub within : (t : ℕ) → t ≤ 16 → s.rep t ≤ 16

-- the terms of a literal are numbers up to 16
pub record Terms (l : Literal) : Type 0 where
  pub left_within : l.left ≤ 16
  pub right_within : l.right ≤ 16

-- those of `count` literals that stand at a place of the query's bytes
pub record TermsIn (bytes : List ℕ) (at count : ℕ) : Type 0 where
  pub terms : (i : ℕ) → i < count → Terms (literal_in bytes at i)
