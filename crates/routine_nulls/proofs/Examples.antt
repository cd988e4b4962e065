-- The examples hold, by computation.
use mathlib.Core.Path.{refl}
use Rattle.routine_logic.specs.Formulas.{base_node, follow, node}
use Rattle.routine_logic.specs.Runs.{prefixes, dereferenced}
use Rattle.routine_table.specs.Cells.{base_of, links_of, term_of}
use Rattle.routine_state.specs.States.{in_rows, link_in, flag_in, variable_in}
use Rattle.routine_state.specs.Examples.{list_bytes}
use Rattle.routine_nulls.specs.Nulls.{first_null, prefix_of}
use Rattle.routine_nulls.specs.Examples.{ExamplesHold, terms, along}

pub examples_hold : ExamplesHold
unfolding base_node follow node prefixes dereferenced base_of links_of term_of in_rows link_in flag_in variable_in list_bytes first_null prefix_of terms along
examples_hold = record { reached = refl; passed = refl; prefix_read = refl }
