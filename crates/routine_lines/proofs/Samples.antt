-- The samples come out as they are listed, by computation.
use mathlib.Core.Path.{refl}
use Rattle.logic.specs.Search.{◌and◌, ◌or◌, select, flat_map}
use Rattle.text.specs.Text.{decimal_within, decimal}
use Rattle.routine_logic.specs.Runs.{prefixes, dereferenced, dereferenced_in}
use Rattle.routine_logic.specs.Checks.{same_base, same_links, same_term, once, terms_of, nulls, invariant_checks, ensures_checks, code_checks, checks}
use Rattle.routine_lines.specs.Lines.{name_of, base_text, term_text, kind_text, check_text, count_text, routine_text, fault_word, place_text, fault_text, checks_text}
use Rattle.routine_lines.specs.Samples.{SamplesHold, looping, sample_text}

pub samples_hold : SamplesHold
unfolding ◌and◌ ◌or◌ select flat_map decimal_within decimal prefixes dereferenced dereferenced_in same_base same_links same_term once terms_of nulls invariant_checks ensures_checks code_checks checks name_of base_text term_text kind_text check_text count_text routine_text fault_word place_text fault_text checks_text looping sample_text
samples_hold = record { lines_hold = refl; fault_holds = refl }
