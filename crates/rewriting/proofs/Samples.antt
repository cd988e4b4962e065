-- The samples come out as they are listed, by computation. Assumes nothing.
use mathlib.Core.Path.{refl}
use mathlib.Core.Option.{Option-elim}
use Rattle.logic.specs.Search.{◌and◌, ◌or◌, from, keep, or_else, first_of, flat_map}
use Rattle.logic.specs.Query.{term_count, entry_role, sign_role, term_role, number_role, count_role, four_sections, boolean_section, five_sections, with_part}
use Rattle.logic.specs.Query.{layout, roles_of, first_byte, layout_by, fault_in, layout_fault, role_fault, byte_fault, literals, section, query_of}
use Rattle.logic.specs.Calls.{layout_check, byte_check, form_checks, refusal_of, padded}
use Rattle.logic.specs.EdgeExamples.{times}
use Rattle.encoding.specs.QueryBytes.{sign_byte, literal_bytes, section_bytes, encode}
use Rattle.encoding.specs.WritingCall.{room_check, writing_checks, refusal, blank, writes, writing_call}
use Rattle.rewriting.specs.OldQuery.{old_sections, flags, boolean_part, decode_old}
use Rattle.rewriting.specs.Rewritten.{as_field, with_fresh, rewritten, rewrite}
use Rattle.rewriting.specs.Call.{has_room}
use Rattle.rewriting.specs.Samples.{SamplesHold, samples, computed}

pub samples_hold : SamplesHold
unfolding Option-elim ◌and◌ ◌or◌ from keep or_else first_of flat_map term_count entry_role sign_role term_role number_role count_role four_sections
    boolean_section five_sections with_part layout roles_of first_byte layout_by fault_in layout_fault role_fault byte_fault literals section query_of layout_check
    byte_check form_checks refusal_of padded times sign_byte literal_bytes section_bytes encode old_sections flags boolean_part decode_old as_field with_fresh
    rewritten rewrite room_check writing_checks refusal blank writes writing_call has_room samples computed
samples_hold = refl
