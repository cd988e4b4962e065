-- The path is the closed one: where it is written, the loop is left.
use Rattle.std.proofs.Common.{◌≡◌}
use Rattle.logic.specs.Decision.{Struck}
use Rattle.facts.specs.Path.{path_of}
use Rattle.rules.specs.Answers.{move_as}
use Rattle.link_query.specs.Said.{said}
use Rattle.decide.proofs.+search.Given as goal

abbrev pub decreases-search : goal.decreases-search
decreases-search l = l.left

abbrev pub invariant-loop-at : goal.invariant-loop-at
invariant-loop-at l = Struck (said l.layout l.query) (path_of l.initial.s) (move_as l.m) l.at × (l.s ≡ l.initial.s)
