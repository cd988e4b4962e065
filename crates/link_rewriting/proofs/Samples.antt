-- The samples come out as they are listed, by computation. Assumes nothing.
use mathlib.Core.Path.{refl}
use mathlib.Core.Option.{Option-elim}
use Rattle.logic.specs.Search.{◌and◌, ◌or◌, from, keep, or_else, first_of, flat_map}
use Rattle.logic.specs.Query.{term_count, entry_role, sign_role, term_role, number_role, count_role, four_sections}
use Rattle.logic.specs.Query.{boolean_section, five_sections, sections, with_part, layout, roles_of, first_byte, layout_by}
use Rattle.logic.specs.Query.{layout_of, fault_in, layout_fault, role_fault, byte_fault, literals, section, query_of, decode}
use Rattle.logic.specs.Calls.{layout_check, byte_check, form_checks, refusal_of, padded}
use Rattle.logic.specs.EdgeExamples.{times}
use Rattle.encoding.specs.QueryBytes.{sign_byte, literal_bytes, section_bytes}
use Rattle.encoding.specs.WritingCall.{room_check, writing_checks, refusal, blank, writes, writing_call}
use Rattle.link_rewriting.specs.LinkedQuery.{link_before, entry_bytes, reach_bytes, encode_links}
use Rattle.link_rewriting.specs.Samples.{SamplesHold, samples, computed}

pub samples_hold : SamplesHold
unfolding Option-elim ◌and◌ ◌or◌ from keep or_else first_of flat_map term_count entry_role sign_role term_role number_role count_role four_sections
    boolean_section five_sections sections with_part layout roles_of first_byte layout_by layout_of fault_in layout_fault role_fault byte_fault literals section
    query_of decode layout_check byte_check form_checks refusal_of padded times sign_byte literal_bytes section_bytes room_check writing_checks refusal blank writes
    writing_call link_before entry_bytes reach_bytes encode_links samples computed
samples_hold = refl
