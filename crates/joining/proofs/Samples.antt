-- The samples come out as they are listed, by computation.
use mathlib.Core.Path.{refl}
use mathlib.Core.Option.{Option-elim}
use Rattle.logic.specs.Search.{◌and◌, ◌or◌, from, all, at, keep, or_else, first_of, flat_map, is_some}
use Rattle.logic.specs.Query.{term_count, entry_role, sign_role, term_role, number_role, count_role, four_sections}
use Rattle.logic.specs.Query.{boolean_section, five_sections, sections, with_part, layout, roles_of, first_byte, layout_by}
use Rattle.logic.specs.Query.{layout_of, fault_in, layout_fault, role_fault, byte_fault, literals, section, query_of, decode}
use Rattle.logic.specs.Calls.{layout_check, byte_check, form_checks, query_checks, refusal_of, padded}
use Rattle.logic.specs.EdgeExamples.{times}
use Rattle.joining.specs.Pairs.{pairs, pairs_of, has_terms, is_pair_list}
use Rattle.encoding.specs.QueryBytes.{sign_byte, literal_bytes, section_bytes, encode, within_limits}
use Rattle.joining.specs.Joined.{raised_entry, raised, pair_literal, joined}
use Rattle.joining.specs.Call.{query_refusal, of_first, of_second, blank, fitted, join_of, join_call}
use Rattle.joining.specs.HandBack.{literals_in, start_in, place_in, is_among, hand_back_of, hand_back_call}
use Rattle.joining.specs.HandBack as handed
use Rattle.joining.specs.Samples.{SamplesHold, join_samples, hand_samples, join_computed, hand_computed}

pub samples_hold : SamplesHold
unfolding Option-elim ◌and◌ ◌or◌ from all at keep or_else first_of flat_map is_some term_count entry_role sign_role term_role number_role count_role
    four_sections boolean_section five_sections sections with_part layout roles_of first_byte layout_by layout_of fault_in layout_fault role_fault byte_fault literals
    section query_of decode layout_check byte_check form_checks query_checks refusal_of padded times pairs pairs_of has_terms is_pair_list raised_entry raised
    pair_literal joined sign_byte literal_bytes section_bytes encode within_limits query_refusal of_first of_second blank fitted join_of join_call literals_in
    start_in place_in is_among hand_back_of hand_back_call handed.of_first handed.of_second join_samples hand_samples join_computed hand_computed
samples_hold = record { joins_hold = refl; hands_hold = refl }
