-- The parts of a report's text, in their order (02, R-2). The closing line follows them.
use Rattle.std.specs.Prelude.{ℕ, List, ◌++◌}
use Rattle.logic.specs.Search.{from, flat_map}
use Rattle.logic.specs.Shown.{size_in}
use Rattle.drawing.specs.Text.{opening, comment_line, node_line, arrow_line}

-- "digraph heap {", and the boolean byte in a comment line
abbrev pub head : List ℕ → List ℕ
head report = opening ++ comment_line report

-- "a line per node"
abbrev pub nodes : List ℕ → List ℕ
nodes report = flat_map (node_line report) (from (size_in report) 1)

-- "then an arrow per link"
abbrev pub arrows : List ℕ → List ℕ
arrows report = flat_map (arrow_line report) (from (size_in report) 1)
