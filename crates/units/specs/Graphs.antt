-- The rows of one link, as the facts of a path.
use Rattle.std.specs.Prelude.{ℕ, ◌≡◌, List}
use Rattle.logic.specs.Facts.{Facts}
use Rattle.facts.specs.Path.{graph_of, HasLink}
use Rattle.link_rows.specs.declared.Link.{Link}
use Rattle.units.specs.declared.graph.Graph.{Graph}

-- the rows are those of this link of the path
abbrev pub RowsOf : Facts → Link → List ℕ → List ℕ → Type 0
RowsOf s k link reach = HasLink s k.0 × (s.graph k.0 ≡ graph_of link reach)

-- the same of rows that go together
abbrev pub GraphOf : Facts → Graph → Type 0
GraphOf s g = RowsOf s g.by g.link g.reach
