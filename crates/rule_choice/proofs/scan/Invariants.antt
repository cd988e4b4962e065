-- What is left of the row is the whole search.
use Rattle.std.proofs.Common.{◌≡◌, true, ◌^◌, ◌≤◌, ◌<◌}
use Rattle.facts.specs.Path.{graph_of}
use Rattle.rows.specs.Bits.{bit}
use Rattle.rules.specs.Answers.{kind_of}
use Rattle.rules.specs.Tests.{is_not_cycle}
use Rattle.rule_choice.proofs.Searches.{Left}
use Rattle.rule_choice.proofs.scan.Given as goal

abbrev pub invariant-loop-y : goal.invariant-loop-y
invariant-loop-y l =
    (l.left < 2 ^ 32)
    × ((few : l.view.n ≤ 16) (other : is_not_cycle (kind_of l.rule) ≡ true) →
    Left l.view.n few (bit l.view.alive) (graph_of l.view.link l.view.reach) (kind_of l.rule) other l.x.0 l.left)

abbrev pub decreases-loop-y : goal.decreases-loop-y
decreases-loop-y l = l.left
