-- The examples hold, by computation.
use mathlib.Core.Path.{refl}
use Rattle.logic.specs.Search.{◌and◌}
use Rattle.routine_table.specs.Cells.{capped, base_of, links_of, term_of}
use Rattle.routine_table.specs.Formulas.{atom_of, join_of, formula_within, formula_at, formula_below, formula_of}
use Rattle.routine_table.specs.Routines.{clause_of, clauses_of, place_of, simple_of, splits, encloses, branch_of, loop_of, code_within, code_of, routine_of}
use Rattle.routine_table.specs.Examples.{ExamplesHold, filled, terms, statements, clauses, routines, parts, walk_table, here, place, p_next, walk}

pub examples_hold : ExamplesHold
unfolding ◌and◌ capped base_of links_of term_of atom_of join_of formula_within formula_at formula_below formula_of clause_of clauses_of place_of simple_of splits encloses branch_of loop_of code_within code_of routine_of filled terms statements clauses routines parts walk_table here place p_next walk
examples_hold = record { walk_read = refl; side_behind = refl; no_part = refl }
