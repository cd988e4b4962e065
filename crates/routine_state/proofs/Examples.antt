-- The examples hold, by computation.
use mathlib.Core.Path.{refl}
use Rattle.logic.specs.Search.{◌and◌, from}
use Rattle.between_search.specs.Tests.{step_count}
use Rattle.routine_logic.specs.Formulas.{reaches_by, between_by}
use Rattle.routine_state.specs.States.{in_rows, link_in, flag_in, variable_in}
use Rattle.routine_state.specs.Examples.{ExamplesHold, list_bytes}

pub examples_hold : ExamplesHold
unfolding ◌and◌ from step_count reaches_by between_by in_rows link_in flag_in variable_in list_bytes
examples_hold =
    record {
      size_read = refl;
      links_read = refl;
      flags_read = refl;
      variables_read = refl;
      links_outside = refl;
      node_outside = refl;
      reaches_read = refl;
      between_read = refl;
    }
