-- The samples print as they are listed, by computation. Assumes nothing.
use mathlib.Core.Path.{refl}
use mathlib.Core.Option.{Option-elim}
use Rattle.logic.specs.Search.{◌and◌, ◌or◌, from, keep, any, all, select, at, holds_of, is_some, or_else, first_of, flat_map, find}
use Rattle.logic.specs.Query.{term_count, entry_of, names_nil, argument_of, link_of, entry_role, sign_role, term_role, number_role, count_role, four_sections, boolean_section, five_sections, sections, with_part, layout, roles_of, first_byte, layout_by, layout_of, fault_in, layout_fault, role_fault, byte_fault, literals, section, query_of, decode}
use Rattle.logic.specs.Facts.{link_numbers, terms, live, became, replace_in, replace, successors, first_two, doubled, unjoined, join_pair, and_then, settle, join, add_reach, links_of, join_each, reach_each, nil_terms, add_links, equal_to, add_nil_links, join_nil, start_joins, start, join_lines, negated_at, plain_at, is_clash, clash_lines, clash}
use Rattle.logic.specs.Rules.{rule_number, rules, rule_of, next, returns, round, conditions, alternatives, held, has_link, applies, branch, move_number, move_of}
use Rattle.logic.specs.Walk.{is_clashed}
use Rattle.logic.specs.Derivation.{lines_from, lines_in}
use Rattle.logic.specs.ThreeLinks.{link_sections, is_link, may_precede, entry_link_fault, reach_link_fault, link_fault, link_check, link_checks, firsts, seconds, linked_literals, linked_query, decode_links}
use Rattle.logic.specs.Calls.{layout_check, byte_check, form_checks, query_checks, refusal_of}
use Rattle.checking.specs.Fitting.{goal_of, same_line, move_in, goals_of, after_rule, at_path, at_goal, step, start_goal, short_of, wrong_from, wrong_line}
use Rattle.checking.specs.CheckCall.{count_in, misshapen, by_wrong, refused_query, query_refusal, check_call_of}
use Rattle.text.specs.Text.{decimal, decimal_within, is_digit}
use Rattle.wording.specs.Words.{refused_text}
use Rattle.decimal_lines.specs.DecimalLines.{begins, ends_number, next_place, is_between, prepend, numbers_from, newline_in, newlines}
use Rattle.check_printing.specs.CheckText.{text_bytes, derivation_in, checked_text, check_text_of}
use Rattle.check_printing.specs.Examples.{PrintsHold, example4, prints, linked4, link_prints}

pub prints_hold : PrintsHold
unfolding Option-elim ◌and◌ ◌or◌ from keep any all select at holds_of is_some or_else first_of flat_map find term_count entry_of names_nil argument_of link_of entry_role sign_role term_role number_role count_role four_sections boolean_section five_sections sections with_part layout roles_of first_byte layout_by layout_of fault_in layout_fault role_fault byte_fault literals section query_of decode link_numbers terms live became replace_in replace successors first_two doubled unjoined join_pair and_then settle join add_reach links_of join_each reach_each nil_terms add_links equal_to add_nil_links join_nil start_joins start join_lines negated_at plain_at is_clash clash_lines clash rule_number rules rule_of next returns round conditions alternatives held has_link applies branch move_number move_of is_clashed lines_from lines_in link_sections is_link may_precede entry_link_fault reach_link_fault link_fault link_check link_checks firsts seconds linked_literals linked_query decode_links layout_check byte_check form_checks query_checks refusal_of goal_of same_line move_in goals_of after_rule at_path at_goal step start_goal short_of wrong_from wrong_line count_in misshapen by_wrong refused_query query_refusal check_call_of decimal decimal_within is_digit refused_text begins ends_number next_place is_between prepend numbers_from newline_in newlines text_bytes derivation_in checked_text check_text_of example4 prints linked4 link_prints
prints_hold = record { one_link_lem = refl; three_links = refl }
