-- What is left of the order list finds what the whole does.
use Rattle.std.proofs.Common.{◌≡◌, true, drop}
use Rattle.logic.specs.Search.{first_of}
use Rattle.rows.specs.Bits.{bit}
use Rattle.rows.specs.Square.{Turned}
use Rattle.facts.specs.Path.{graph_of}
use Rattle.rule_choice.specs.Smallest.{tried_at}
use Rattle.rule_choice.proofs.choose_by.Given as goal

abbrev pub invariant-loop-number : goal.invariant-loop-number
invariant-loop-number l =
    (l.view.n ≡ l.fn.view.n)
    × (l.view.alive ≡ l.fn.view.alive)
    × (l.view.link ≡ l.fn.view.link)
    × (l.view.reach ≡ l.fn.view.reach)
    × (first_of (tried_at l.k.0 l.fn.view.n (bit l.fn.view.alive) (graph_of l.fn.view.link l.fn.view.reach)) l.order
    ≡ first_of (tried_at l.k.0 l.fn.view.n (bit l.fn.view.alive) (graph_of l.fn.view.link l.fn.view.reach)) (drop l.number-index l.order))
    × (l.turned ≡ true → Turned l.view.back l.fn.view.reach)
