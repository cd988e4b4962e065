-- What makes a literal a clash with a path.
use Rattle.std.specs.Prelude.{ℕ, Bool, eqb}
use Rattle.logic.specs.Search.{◌and◌}
use Rattle.logic.specs.Query.{Literal}
use Rattle.logic.specs.Facts.{Facts}

-- the tests of sections 2 and 3, and that of a literal's partner in section 4
abbrev pub one_term : (ℕ → ℕ) → Literal → Bool
one_term rep l = eqb (rep l.left) (rep l.right)

abbrev pub reach_held : Facts → Literal → Bool
reach_held s l = (s.graph l.link).reach (s.rep l.left) (s.rep l.right)

abbrev pub same_field : (ℕ → ℕ) → Literal → Literal → Bool
same_field rep l m = eqb l.left m.left and eqb (rep l.right) (rep m.right)
