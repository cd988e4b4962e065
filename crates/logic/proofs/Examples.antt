-- The starred examples come out as 01 says, by computation.
use mathlib.Core.Path.{refl}
use mathlib.Core.Option.{Option-elim}
use Rattle.logic.specs.Search.{◌and◌, ◌or◌, from, keep, any, all, select, at, holds_of, or_else, first_of, flat_map, find}
use Rattle.logic.specs.Query.{term_count, entry_of, names_nil, argument_of, link_of, entry_role, sign_role, term_role, number_role, count_role}
use Rattle.logic.specs.Query.{four_sections, boolean_section, five_sections, sections, with_part, layout, roles_of, first_byte, layout_by}
use Rattle.logic.specs.Query.{layout_of, fault_in, layout_fault, role_fault, byte_fault, is_order, literals, section, query_of, decode}
use Rattle.logic.specs.Facts.{link_numbers, terms, live, live_terms, became, replace_in, replace, successors, first_two, doubled, unjoined}
use Rattle.logic.specs.Facts.{join_pair, and_then, settle, join, add_reach, links_of, join_each, reach_each, nil_terms, add_links, equal_to}
use Rattle.logic.specs.Facts.{add_nil_links, join_nil, start_joins, start, join_lines, negated_at, plain_at, is_clash, clash_lines, clash}
use Rattle.logic.specs.Rules.{rule_number, rules, rule_of, next, returns, round, conditions, alternatives, held, has_link, applies, branch, add, branches, triples, choose, move_number, move_line}
use Rattle.logic.specs.Walk.{order_of, look, after, then_ending, walk_branch, walk_each, end_at, walk, limit, our_walk}
use Rattle.logic.specs.Derivation.{line_bytes, derivation_bytes}
use Rattle.logic.specs.Shown.{reached, in_basin, heads, on_path, basin_link, tree_link, new_link, link_each, shown_link, or_zero, nodes, place_of, byte_of, field_byte, successors_shown, report}
use Rattle.logic.specs.Calls.{order_check, layout_check, byte_check, form_checks, room_under, query_checks, verdict_checks_of, derivation_checks_of}
use Rattle.logic.specs.Calls.{refusal_of, padded, blank, call, verdict_of, verdict_call_of, derivation_of, derivation_call_of}
use Rattle.logic.specs.Examples.{ExamplesHold, in_order, sat, unsat, ring_terms, examples, computed}

pub examples_hold : ExamplesHold
unfolding Option-elim ◌and◌ ◌or◌ from keep any all select at holds_of or_else first_of flat_map find term_count entry_of names_nil argument_of link_of
    entry_role sign_role term_role number_role count_role four_sections boolean_section five_sections sections with_part layout roles_of first_byte layout_by layout_of
    fault_in layout_fault role_fault byte_fault is_order literals section query_of decode link_numbers terms live live_terms became replace_in replace successors
    first_two doubled unjoined join_pair and_then settle join add_reach links_of join_each reach_each nil_terms add_links equal_to add_nil_links join_nil start_joins
    start join_lines negated_at plain_at is_clash clash_lines clash rule_number rules rule_of next returns round conditions alternatives held has_link applies
    branch add branches triples choose move_number move_line order_of look after then_ending walk_branch walk_each end_at walk limit our_walk line_bytes
    derivation_bytes reached in_basin heads on_path basin_link tree_link new_link link_each shown_link or_zero nodes place_of byte_of field_byte successors_shown
    report order_check layout_check byte_check form_checks room_under query_checks verdict_checks_of derivation_checks_of refusal_of padded blank call verdict_of
    verdict_call_of derivation_of derivation_call_of in_order sat unsat ring_terms examples computed
examples_hold = refl
