-- The steps that are left; what is left of the branches comes out as the whole.
use Rattle.facts.specs.Path.{path_of}
use Rattle.link_query.specs.Said.{said}
use Rattle.rules.specs.Answers.{move_as}
use Rattle.checker.proofs.Goals.{BranchesLeft}
use Rattle.checker.proofs.+check_goal.Given as goal

abbrev pub decreases-check_goal : goal.decreases-check_goal
decreases-check_goal l = l.left

abbrev pub invariant-loop-i : goal.invariant-loop-i
invariant-loop-i l = BranchesLeft (said l.layout l.query) l.derivation l.count (path_of l.goal.facts) l.at (move_as l.m) l.i l.to
