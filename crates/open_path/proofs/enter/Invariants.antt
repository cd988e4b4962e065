-- The branches before have no heap; where the path is written, the loop is left.
use Rattle.std.proofs.Common.{◌≡◌}
use Rattle.logic.specs.Decision.{Struck, HasHeap}
use Rattle.facts.specs.Path.{path_of}
use Rattle.rules.specs.Answers.{move_as}
use Rattle.link_query.specs.Said.{said}
use Rattle.open_path.proofs.enter.Given as goal

abbrev pub invariant-loop-i : goal.invariant-loop-i
invariant-loop-i l =
    Struck (said l.layout l.query) (path_of l.initial.descent.path) (move_as l.m) l.i × (l.descent.path ≡ l.initial.descent.path) × HasHeap (said l.layout l.query) (path_of l.descent.witness)
