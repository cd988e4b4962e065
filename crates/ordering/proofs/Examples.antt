-- The examples come out as the table says, by computation.
use mathlib.Core.Path.{refl}
use mathlib.Core.Option.{Option-elim}
use Rattle.logic.specs.Search.{◌and◌, ◌or◌, from, keep, any, all, or_else, first_of, find}
use Rattle.logic.specs.Calls.{padded}
use Rattle.ordering.specs.Sheet.{pairs, laid_out, is_rule, rules_only, paired}
use Rattle.ordering.specs.Finding.{free, ready, next_rule, grow, leads, onward, next_on, follow, ring_start, ring_of, shown_ring}
use Rattle.ordering.specs.Calls.{refusal, answered, order_call}
use Rattle.ordering.specs.Examples.{ExamplesHold, example, examples, computed}

pub examples_hold : ExamplesHold
unfolding Option-elim ◌and◌ ◌or◌ from keep any all or_else first_of find padded pairs laid_out is_rule rules_only paired free ready next_rule grow leads
    onward next_on follow ring_start ring_of shown_ring refusal answered order_call example examples computed
examples_hold = refl
