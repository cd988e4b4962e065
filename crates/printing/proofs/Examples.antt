-- What heapverdict prints of examples of 01, by computation. Assumes nothing.
use mathlib.Core.Path.{refl}
use mathlib.Core.Option.{Option-elim}
use Rattle.logic.specs.Search.{◌and◌, ◌or◌, from, keep, any, all, select, at, holds_of, or_else, first_of, flat_map, find}
use Rattle.logic.specs.Query.{term_count, entry_of, names_nil, argument_of, entry_role, sign_role, term_role, number_role, count_role}
use Rattle.logic.specs.Query.{four_sections, boolean_section, five_sections, sections, with_part, layout, roles_of, first_byte, layout_by}
use Rattle.logic.specs.Query.{layout_of, fault_in, layout_fault, role_fault, byte_fault, is_order, literals, section, query_of, decode, link_of}
use Rattle.logic.specs.Facts.{terms, live, live_terms, became, replace_in, replace, successors, first_two, doubled, unjoined, join_pair}
use Rattle.logic.specs.Facts.{and_then, settle, join, add_reach, links_of, join_each, reach_each, nil_terms, equal_to, join_nil, start_joins}
use Rattle.logic.specs.Facts.{start, join_lines, negated_at, plain_at, is_clash, clash_lines, clash, link_numbers, add_links, add_nil_links}
use Rattle.logic.specs.Rules.{rule_number, rules, rule_of, next, returns, round, conditions, alternatives, held, applies, branch, add, branches, triples, choose, move_line, has_link, move_number}
use Rattle.logic.specs.Walk.{order_of, look, after, then_ending, walk_branch, walk_each, end_at, walk, limit, our_walk}
use Rattle.logic.specs.Derivation.{line_bytes, derivation_bytes, lines_from, lines_in}
use Rattle.logic.specs.Shown.{reached, in_basin, heads, on_path, basin_link, tree_link, new_link, link_each, shown_link, or_zero, nodes, place_of, byte_of, field_byte, report, successors_shown}
use Rattle.logic.specs.Calls.{order_check, layout_check, byte_check, form_checks, query_checks, refusal_of, padded, blank, call, verdict_of}
use Rattle.logic.specs.Calls.{derivation_of, derivation_call_of, derivation_checks_of, room_under, verdict_call_of, verdict_checks_of}
use Rattle.logic.specs.Shown.{size_in}
use Rattle.logic.specs.Examples.{in_order}
use Rattle.text.specs.Text.{decimal, decimal_within, hex_byte, hex_digit}
use Rattle.wording.specs.Words.{behind, line_of, refused_text, report_size, report_text, line_text}
use Rattle.printing.specs.Examples.{PrintsHold, prints}
use Rattle.printing.specs.HeapverdictText.{answer_text, first_line, derivation_text, verdict_text, unsat_text, text_of, text_by}

pub prints_hold : PrintsHold
unfolding Option-elim ◌and◌ ◌or◌ from keep any all select at holds_of or_else first_of flat_map find term_count entry_of names_nil argument_of entry_role
    sign_role term_role number_role count_role four_sections boolean_section five_sections sections with_part layout roles_of first_byte layout_by layout_of fault_in
    layout_fault role_fault byte_fault is_order literals section query_of decode terms live live_terms became replace_in replace successors first_two doubled
    unjoined join_pair and_then settle join add_reach links_of join_each reach_each nil_terms equal_to join_nil start_joins start join_lines negated_at plain_at
    is_clash clash_lines clash rule_number rules rule_of next returns round conditions alternatives held applies branch add branches triples choose move_line
    order_of look after then_ending walk_branch walk_each end_at walk limit our_walk line_bytes derivation_bytes reached in_basin heads on_path basin_link tree_link
    new_link link_each shown_link or_zero nodes place_of byte_of field_byte report order_check layout_check byte_check form_checks room_under query_checks
    verdict_checks_of derivation_checks_of refusal_of padded blank call verdict_of verdict_call_of derivation_of derivation_call_of size_in in_order prints decimal
    decimal_within hex_byte hex_digit behind line_of refused_text answer_text first_line report_size report_text line_text lines_from lines_in derivation_text
    verdict_text unsat_text text_of text_by link_of link_numbers add_links add_nil_links has_link move_number successors_shown
prints_hold = refl
