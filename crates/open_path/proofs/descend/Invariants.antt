-- Our walk goes on from a path with a heap, with the steps that are left.
use Rattle.logic.specs.Decision.{HasHeap}
use Rattle.facts.specs.Path.{path_of}
use Rattle.link_query.specs.Said.{said}
use Rattle.open_path.proofs.First.{Comes}
use Rattle.open_path.proofs.descend.Given as goal

abbrev pub invariant-loop-m : goal.invariant-loop-m
invariant-loop-m l =
    Comes (said l.layout l.query) l.order l.initial.steps (path_of l.initial.descent.path) l.steps (path_of l.descent.path) × HasHeap (said l.layout l.query) (path_of l.descent.witness)

abbrev pub decreases-loop-m : goal.decreases-loop-m
decreases-loop-m l = l.steps
