-- The samples print as they are listed, by computation. Assumes nothing.
use mathlib.Core.Path.{refl}
use mathlib.Core.Option.{Option-elim}
use Rattle.logic.specs.Search.{◌and◌, ◌or◌, from, all, at, keep, or_else, first_of, flat_map, is_some}
use Rattle.logic.specs.Query.{term_count, entry_role, sign_role, term_role, number_role, count_role, four_sections}
use Rattle.logic.specs.Query.{boolean_section, five_sections, sections, with_part, layout, roles_of, first_byte, layout_by}
use Rattle.logic.specs.Query.{layout_of, fault_in, layout_fault, role_fault, byte_fault, literals, section, query_of, decode}
use Rattle.logic.specs.Calls.{layout_check, byte_check, form_checks, query_checks, refusal_of, padded}
use Rattle.logic.specs.EdgeExamples.{times}
use Rattle.joining.specs.Pairs.{pairs, pairs_of, has_terms, is_pair_list}
use Rattle.joining.specs.Joined.{raised_entry, raised, pair_literal, joined}
use Rattle.encoding.specs.QueryBytes.{sign_byte, literal_bytes, section_bytes, encode, within_limits}
use Rattle.joining.specs.Call.{query_refusal, of_first, of_second, blank, fitted, join_of, join_call}
use Rattle.joining.specs.HandBack.{literals_in, start_in, place_in, is_among, hand_back_of, hand_back_call, part_of}
use Rattle.joining.specs.HandBack as handed
use Rattle.text.specs.Text.{decimal, decimal_within, hex_byte, hex_digit, is_digit}
use Rattle.wording.specs.Words.{behind, line_of, refused_text}
use Rattle.checking.specs.CheckCall.{count_in}
use Rattle.decimal_lines.specs.DecimalLines.{begins, ends_number, next_place, is_between, prepend, numbers_from}
use Rattle.hex_lines.specs.HexLines.{hex_line}
use Rattle.join_printing.specs.JoinText.{query_in, behind_query, answer_text, joined_text, part_text, handed_text, line_in, told_text, joinqueries_text}
use Rattle.join_printing.specs.Examples.{PrintsHold, teams, longest, prints}

pub prints_hold : PrintsHold
unfolding Option-elim ◌and◌ ◌or◌ from all at keep or_else first_of flat_map is_some term_count entry_role sign_role term_role number_role count_role
    four_sections boolean_section five_sections sections with_part layout roles_of first_byte layout_by layout_of fault_in layout_fault role_fault byte_fault literals
    section query_of decode layout_check byte_check form_checks query_checks refusal_of padded pairs pairs_of has_terms is_pair_list raised_entry raised pair_literal
    joined sign_byte literal_bytes section_bytes encode within_limits query_refusal of_first of_second blank fitted join_of join_call literals_in start_in place_in
    is_among hand_back_of hand_back_call handed.of_first handed.of_second part_of decimal decimal_within hex_byte hex_digit is_digit behind line_of refused_text count_in
    begins ends_number next_place is_between prepend numbers_from query_in behind_query hex_line answer_text joined_text part_text handed_text line_in told_text
    joinqueries_text times teams longest prints
prints_hold = refl
