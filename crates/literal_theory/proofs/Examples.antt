-- The examples hold, by computation.
use mathlib.Core.Path.{refl}
use mathlib.Core.Option.{Option-elim}
use Rattle.logic.specs.Search.{◌and◌, ◌or◌, from, any, all, select, at, flat_map}
use Rattle.between_search.specs.Tests.{step_count}
use Rattle.routine_logic.specs.State.{changed}
use Rattle.routine_logic.specs.Formulas.{base_node, follow, node, reaches_by, between_by, same_truth, holds}
use Rattle.routine_logic.specs.Runs.{can_fail, prefixes, dereferenced, dereferenced_in}
use Rattle.routine_logic.specs.Checks.{same_base, same_links, same_term}
use Rattle.routine_logic.specs.Shown.{kind_number, clause_number, term_in, same_kind, same_check}
use Rattle.routine_logic.specs.Examples.{state_of, remove, bent}
use Rattle.cut_theory.specs.Jumps.{without}
use Rattle.cut_theory.specs.Versions.{is_cut, cut}
use Rattle.cut_theory.specs.Trees.{every, some_tree, active_tree, target_name, avoiding, reach_tree, reaches_tree, between_tree, read_tree, flag_tree}
use Rattle.path_theory.specs.Points as points
use Rattle.path_theory.specs.Assignments.{count, assigned_at, value_at}
use Rattle.path_theory.specs.Paths.{asking, reading_paths, deciding, testing_paths, clauses_paths, paths, finishing_paths, loop_paths, segment_paths, start_trail}
use Rattle.literal_theory.specs.Labels.{read_label, base_label, along_label, term_label, names_in, stores_in, labels_in, label_node, cut_label, cut_names, marks_of}
use Rattle.literal_theory.specs.Forms.{junction, literals, conjunction, names_of, renamed, meets_form, alternatives, negations}
use Rattle.literal_theory.specs.Heaps.{cut_heap}
use Rattle.literal_theory.specs.Translation.{terms_in, plainly, bare_base, bare, unlinked, fixed_labels, choices, translate, reading, cut_form, cut_forms, cut_labels, fact_form, fact_forms, asked, whole, betweens, fact_betweens, plan_of, null_flag, case_form, mark_labels, fact_labels, case_labels, tidy}
use Rattle.literal_theory.specs.Numbers.{same_name, same_stores, same_place, same_label, number_of, term_of, distinct, table_of, numbered}
use Rattle.literal_theory.specs.Examples.{ExamplesHold, cases_of, met_by, all_met, twice, elsewhere, marked, one_of_two, apart, alike, ordered, read_as}

pub examples_hold : ExamplesHold
unfolding Option-elim ◌and◌ ◌or◌ from any all select at flat_map step_count changed base_node follow node reaches_by between_by same_truth holds can_fail prefixes dereferenced dereferenced_in same_base same_links same_term kind_number clause_number term_in same_kind same_check state_of remove bent without is_cut cut every some_tree active_tree target_name avoiding reach_tree reaches_tree between_tree read_tree flag_tree points.node_of points.link_of points.flag_of points.state_at points.at_start points.base_name points.along points.name_of points.named points.linked points.marked points.havocked count assigned_at value_at asking reading_paths deciding testing_paths clauses_paths paths finishing_paths loop_paths segment_paths start_trail read_label base_label along_label term_label names_in stores_in labels_in label_node cut_label cut_names marks_of junction literals conjunction names_of meets_form cut_heap translate reading cut_form cut_forms cut_labels fact_form fact_forms asked whole betweens fact_betweens plan_of null_flag case_form cases_of met_by all_met twice elsewhere marked one_of_two apart alike ordered read_as renamed alternatives negations terms_in plainly bare_base bare unlinked fixed_labels choices mark_labels fact_labels case_labels tidy same_name same_stores same_place same_label number_of term_of distinct table_of numbered
examples_hold =
    record {
      bent_fails = refl;
      bent_passes = refl;
      remove_passes = refl;
      remove_holds = refl;
      one_node' = refl;
      one_node_fails = refl;
      two_nodes_lem = refl;
      read_elsewhere = refl;
      read_there = refl;
      forall_fails = refl;
      forall_elsewhere = refl;
      between_holds = refl;
      between_fails = refl;
      read_first = refl;
      read_after = refl;
      two_foralls = refl;
      two_foralls_once = refl;
      by_number = refl;
      labels_of_case = refl;
      bears_none = refl;
      bears_link = refl;
      plain_forall = refl;
      denied_forall = refl;
      below_same = refl;
      tidy_denied = refl;
      alternating = refl;
      taken_apart = refl;
    }
