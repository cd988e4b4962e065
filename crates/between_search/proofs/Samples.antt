-- The samples come out as they say, by computation.
use mathlib.Core.Path.{refl}
use mathlib.Core.Option.{Option-elim}
use Rattle.logic.specs.Search.{◌and◌, ◌or◌, from, keep, any, or_else, is_some, first_of, flat_map}
use Rattle.logic.specs.Query.{entry_of, names_nil, argument_of, term_count, entry_role, sign_role, term_role, number_role, count_role}
use Rattle.logic.specs.Query.{four_sections, boolean_section, five_sections, sections, with_part, layout, roles_of, first_byte}
use Rattle.logic.specs.Query.{layout_by, fault_in, layout_fault, role_fault, byte_fault, literals, section, query_of}
use Rattle.logic.specs.Shown.{byte_of}
use Rattle.logic.specs.Facts.{terms}
use Rattle.logic.specs.Calls.{layout_check, byte_check, form_checks, refusal_of, padded, blank, room_under}
use Rattle.between_search.specs.Bytes.{between_section, six_sections, six_layout, triples, betweens_of, decode_six, five_terms_check, six_checks, between_checks}
use Rattle.between_search.specs.Tests.{step_count, steps, agrees, due_pair, due_triple, pair_breaks, triple_breaks, nil_breaks, says_field, has_field, opposed, field_breaks, is_fresh, used, breaks}
use Rattle.between_search.specs.Search.{seek, entry, lowest_node, highest_node, seek_nodes, nodes_found, seek_links, links_found, size_found, most_nodes, heap_found, data_byte, report_of}
use Rattle.between_search.specs.Calls.{searched, between_call}
use Rattle.between_search.specs.Samples.{SamplesHold, sample, samples, computed}

pub samples_hold : SamplesHold
unfolding Option-elim ◌and◌ ◌or◌ from keep any or_else is_some first_of flat_map entry_of names_nil argument_of term_count entry_role sign_role term_role
    number_role count_role four_sections boolean_section five_sections sections with_part layout roles_of first_byte layout_by fault_in layout_fault role_fault
    byte_fault literals section query_of byte_of terms layout_check byte_check form_checks room_under refusal_of padded blank between_section six_sections six_layout
    triples betweens_of decode_six five_terms_check six_checks between_checks step_count steps agrees due_pair due_triple pair_breaks triple_breaks nil_breaks
    says_field has_field opposed field_breaks is_fresh used breaks seek entry lowest_node highest_node seek_nodes nodes_found seek_links links_found size_found
    most_nodes heap_found data_byte report_of searched between_call sample samples computed
samples_hold = refl
