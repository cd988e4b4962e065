-- The steps that are left; the path is the one that was looked at: where it is written, the loop is left.
use Rattle.std.proofs.Common.{◌≡◌, is_some}
use Rattle.logic.specs.Decision.{Struck}
use Rattle.facts.specs.Path.{path_of}
use Rattle.rules.specs.Answers.{move_as}
use Rattle.link_query.specs.Said.{said}
use Rattle.plain_steps.proofs.+plain.Given as goal

abbrev pub decreases-plain : goal.decreases-plain
decreases-plain l = l.left

abbrev pub invariant-loop-i : goal.invariant-loop-i
invariant-loop-i l = Struck (said l.layout l.query) (path_of l.initial.s) (move_as l.m) l.i × (l.s ≡ l.initial.s) × (is_some l.budget ≡ is_some l.initial.budget)
