-- What is left to search equals the whole.
use Rattle.std.proofs.Common.{◌≡◌, ◌+◌, ◌-◌}
use Rattle.logic.specs.Search.{from, first_of}
use Rattle.facts.specs.Path.{graph_of}
use Rattle.rules.specs.Answers.{kind_of}
use Rattle.rows.specs.Bits.{bit}
use Rattle.rule_choice.specs.Smallest.{in_second, in_first}
use Rattle.rule_choice.proofs.smallest.Given as goal

abbrev pub invariant-loop-x : goal.invariant-loop-x
invariant-loop-x l =
    in_first l.view.n (bit l.view.alive) (graph_of l.view.link l.view.reach) (kind_of l.rule)
    ≡ first_of (in_second l.view.n (bit l.view.alive) (graph_of l.view.link l.view.reach) (kind_of l.rule)) (from (l.view.n + 1 - l.x) l.x)
