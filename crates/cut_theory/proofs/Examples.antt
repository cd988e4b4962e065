-- The examples come out, by computation.
use mathlib.Core.Path.{refl}
use Rattle.logic.specs.Search.{◌and◌, ◌or◌, from, any, all}
use Rattle.routine_logic.specs.State.{changed}
use Rattle.cut_theory.specs.Versions.{version, is_cut, cut, target, free_of, active}
use Rattle.cut_theory.specs.Examples.{ExamplesHold, before, nodes, values, leads, actives, targets}

pub examples_hold : ExamplesHold
unfolding ◌and◌ ◌or◌ from any all changed version is_cut cut target free_of active before nodes values leads actives targets
examples_hold =
    record {
      at_first = refl;
      after_one = refl;
      after_two = refl;
      after_three = refl;
      cut_links = refl;
      active_at_first = refl;
      active_after_one = refl;
      active_after_two = refl;
      active_after_three = refl;
      targets_at_first = refl;
      targets_after_two = refl;
    }
