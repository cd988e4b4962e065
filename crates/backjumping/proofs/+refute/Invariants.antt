-- The steps that are left; the alternatives so far are excluded by what is needed.
use Rattle.std.proofs.Common.{ℕ, ◌<◌}
use Rattle.facts.specs.Path.{path_of}
use Rattle.rules.specs.Answers.{kind_of}
use Rattle.alternatives.specs.Alternatives.{alternative_at}
use Rattle.link_query.specs.Said.{said}
use Rattle.nogoods.specs.Nogoods.{Excludes}
use Rattle.backjumping.proofs.+refute.Given as goal

abbrev pub decreases-refute : goal.decreases-refute
decreases-refute l = l.left

abbrev pub invariant-loop-at : goal.invariant-loop-at
invariant-loop-at l =
    (i : ℕ) → i < l.at → Excludes (said l.layout l.query) (path_of l.need)
    (alternative_at l.m.link.0 l.n ((path_of l.closed).graph l.m.link.0) (kind_of l.m.rule) l.m.x.0 l.m.y.0 l.m.z.0 i)
