-- What is left of the order list finds what the whole does.
use Rattle.std.proofs.Common.{◌≡◌, drop}
use Rattle.logic.specs.Search.{first_of}
use Rattle.rows.specs.Bits.{bit}
use Rattle.facts.specs.Path.{graph_in}
use Rattle.rule_choice.specs.Smallest.{tried_by}
use Rattle.rule_choice.proofs.choose_any.Given as goal

abbrev pub invariant-loop-number : goal.invariant-loop-number
invariant-loop-number l =
    first_of (tried_by l.n (bit l.alive) (graph_in l.s.link l.s.reach)) l.order
    ≡ first_of (tried_by l.n (bit l.alive) (graph_in l.s.link l.s.reach)) (drop l.number-index l.order)
