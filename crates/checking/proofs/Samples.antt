-- The samples come out as they are listed, by computation.
use mathlib.Core.Path.{refl}
use mathlib.Core.Option.{Option-elim}
use Rattle.logic.specs.Search.{◌and◌, ◌or◌, from, keep, any, all, select, at, holds_of, is_some, or_else, first_of, flat_map, find}
use Rattle.logic.specs.Query.{term_count, entry_of, names_nil, argument_of, link_of, entry_role, sign_role, term_role, number_role, count_role, four_sections, boolean_section, five_sections, sections, with_part, layout, roles_of, first_byte, layout_by, layout_of, fault_in, layout_fault, role_fault, byte_fault, literals, section, query_of, decode}
use Rattle.logic.specs.Facts.{terms, live, became, replace_in, replace, successors, first_two, doubled, unjoined, join_pair, and_then, settle, join, add_reach, link_numbers, links_of, join_each, reach_each, nil_terms, add_links, equal_to, add_nil_links, join_nil, start_joins, start, join_lines, negated_at, plain_at, is_clash, clash_lines, clash}
use Rattle.logic.specs.Rules.{rule_number, rules, next, returns, round, conditions, alternatives, held, has_link, applies, branch, move_number, move_of}
use Rattle.logic.specs.Walk.{is_clashed}
use Rattle.logic.specs.Derivation.{lines_from, lines_in}
use Rattle.logic.specs.ThreeLinks.{link_sections, is_link, may_precede, entry_link_fault, reach_link_fault, link_fault, link_check, link_checks, firsts, seconds, linked_literals, linked_query, decode_links}
use Rattle.logic.specs.Calls.{layout_check, byte_check, form_checks, query_checks, refusal_of}
use Rattle.checking.specs.Fitting.{goal_of, same_line, move_in, goals_of, after_rule, at_path, at_goal, step, start_goal, short_of, wrong_from, wrong_line}
use Rattle.checking.specs.CheckCall.{count_in, misshapen, by_wrong, refused_query, query_refusal, check_call_of}
use Rattle.checking.specs.Samples.{SamplesHold, sample, linked, example4, opening4, clashing, linked4, listing4, samples, computed}

pub samples_hold : SamplesHold
unfolding Option-elim ◌and◌ ◌or◌ from keep any all select at holds_of is_some or_else first_of flat_map find term_count entry_of names_nil argument_of link_of entry_role sign_role term_role number_role count_role four_sections boolean_section five_sections sections with_part layout roles_of first_byte layout_by layout_of fault_in layout_fault role_fault byte_fault literals section query_of decode terms live became replace_in replace successors first_two doubled unjoined join_pair and_then settle join add_reach link_numbers links_of join_each reach_each nil_terms add_links equal_to add_nil_links join_nil start_joins start join_lines negated_at plain_at is_clash clash_lines clash rule_number rules next returns round conditions alternatives held has_link applies branch move_number move_of is_clashed lines_from lines_in link_sections is_link may_precede entry_link_fault reach_link_fault link_fault link_check link_checks firsts seconds linked_literals linked_query decode_links layout_check byte_check form_checks query_checks refusal_of goal_of same_line move_in goals_of after_rule at_path at_goal step start_goal short_of wrong_from wrong_line count_in misshapen by_wrong refused_query query_refusal check_call_of sample linked example4 opening4 clashing linked4 listing4 samples computed
samples_hold = refl
