-- As for any rule: what is left of the row is the whole search.
use Rattle.std.proofs.Common.{ℕ, Bool, List, ◌^◌, ◌≤◌, ◌<◌}
use Rattle.logic.specs.Rules.{TRANS2}
use Rattle.facts.specs.Path.{graph_of}
use Rattle.rule_choice.proofs.Searches.{Left, onward_not_cycle}
use Rattle.rule_choice.proofs.scan_onward.Given as goal

abbrev pub invariant-loop-y : goal.invariant-loop-y
invariant-loop-y l =
    (l.left < 2 ^ 32)
    × ((few : l.view.n ≤ 16) (alive : ℕ → Bool) (link : List ℕ) → Left l.view.n few alive (graph_of link l.view.reach) TRANS2 onward_not_cycle l.x.0 l.left)

abbrev pub decreases-loop-y : goal.decreases-loop-y
decreases-loop-y l = l.left
