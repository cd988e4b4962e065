-- The samples come out as they are listed, by computation.
use mathlib.Core.Path.{refl}
use mathlib.Core.Option.{Option-elim}
use Rattle.logic.specs.Search.{◌and◌, ◌or◌, from, any, all, at, keep, or_else, first_of, flat_map, is_some}
use Rattle.logic.specs.Query.{term_count, entry_role, sign_role, term_role, number_role, count_role, four_sections, boolean_section}
use Rattle.logic.specs.Query.{five_sections, sections, with_part, layout, roles_of, first_byte, layout_by, layout_of, fault_in}
use Rattle.logic.specs.Query.{layout_fault, role_fault, byte_fault, is_order, literals, section, query_of, decode}
use Rattle.logic.specs.Calls.{order_check, layout_check, byte_check, form_checks, query_checks, refusal_of, room_under, verdict_checks_of}
use Rattle.text.specs.Text.{is_digit}
use Rattle.formula.specs.Grammar.{letter_byte, is_place, shown}
use Rattle.formula.specs.Expansion.{expand}
use Rattle.formula.specs.Meaning.{present}
use Rattle.formula.specs.Places.{digits_at, past_digits}
use Rattle.formula.specs.Reader.{mark, past_blanks, and_then, joined, further, closed, named, item_by, item_at, read, calls, ended, read_text}
use Rattle.formula.specs.Call.{blank, decided, after_reading, text_outcome, as_refusal, formula_call}
use Rattle.formula.specs.ReadingSamples.{SamplesHold, given, input_of, refusal, opens, closes, ors, refusals, refusal_computed, reads, readings, read_computed}

pub samples_hold : SamplesHold
unfolding Option-elim ◌and◌ ◌or◌ from any all at keep or_else first_of flat_map is_some term_count entry_role sign_role term_role number_role count_role
    four_sections boolean_section five_sections sections with_part layout roles_of first_byte layout_by layout_of fault_in layout_fault role_fault byte_fault is_order
    literals section query_of decode order_check layout_check byte_check room_under form_checks query_checks verdict_checks_of refusal_of is_digit letter_byte is_place
    shown expand present digits_at past_digits mark past_blanks and_then joined further closed named item_by item_at read calls ended read_text blank decided
    after_reading text_outcome as_refusal formula_call given input_of refusal opens closes ors refusals refusal_computed reads readings read_computed
samples_hold = record { refusals_hold = refl; readings_hold = refl }
