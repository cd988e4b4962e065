-- What ruleshares prints of small inputs, by computation: nothing at all, a length cut short, a length of 682, and a query under a bad
-- order list. Assumes nothing.
use mathlib.Core.Path.{◌≡◌, refl}
use mathlib.Core.Option.{Option-elim}
use mathlib.Core.List.{[], ◌∷◌, ◌++◌}
use Rattle.logic.specs.Search.{◌and◌, ◌or◌, from, keep, any, all, select, at, or_else, first_of, flat_map, find}
use Rattle.logic.specs.Query.{is_order}
use Rattle.logic.specs.Calls.{order_check, layout_check, byte_check, query_checks, refusal_of, blank, call, derivation_call_of, derivation_checks_of, room_under, verdict_call_of, verdict_checks_of}
use Rattle.logic.specs.Examples.{in_order}
use Rattle.text.specs.Text.{ascii, decimal, decimal_within, hex_byte, hex_digit}
use Rattle.wording.specs.Words.{refused_text}
use Rattle.printing.specs.HeapverdictText.{answer_text}
use Rattle.fnv.specs.Mark.{marked, mark_from, mark_of}
use Rattle.tally.specs.Counting.{kind_of, rule_lines, raised_from, raised, fits, tallied, no_lines}
use Rattle.fractions.specs.Fractions.{gcd_within, gcd, share, total_of, shares_of, fraction_text, shares_text}
use Rattle.sharing.specs.Output.{hex_word, lines_of, answer_of, written_lines, query_line, length_in, is_bad, wanted, turn_of, first_turn, first_length, output_within, output_from, output}

examples :
    (output [] ≡ ascii "0/1\n0/1\n0/1\n0/1\n0/1\n0/1\n0/1\n0/1\n")
    × (output (in_order ++ (0 ∷ [])) ≡ ascii "bad length\n0/1\n0/1\n0/1\n0/1\n0/1\n0/1\n0/1\n0/1\n")
    × (output (in_order ++ (2 ∷ 170 ∷ [])) ≡ ascii "bad length\n0/1\n0/1\n0/1\n0/1\n0/1\n0/1\n0/1\n0/1\n")
    × (output (1 ∷ 1 ∷ 3 ∷ 4 ∷ 5 ∷ 6 ∷ 7 ∷ 8 ∷ 0 ∷ 1 ∷ 97 ∷ []) ≡ ascii "e40c292c refused 1 at 0 0\n0/1\n0/1\n0/1\n0/1\n0/1\n0/1\n0/1\n0/1\n")
unfolding Option-elim ◌and◌ ◌or◌ from keep any all select at or_else first_of flat_map find is_order order_check layout_check byte_check room_under
    query_checks verdict_checks_of derivation_checks_of refusal_of blank call verdict_call_of derivation_call_of in_order decimal decimal_within hex_byte hex_digit
    answer_text refused_text marked mark_from mark_of kind_of rule_lines raised_from raised fits tallied no_lines gcd_within gcd share total_of shares_of
    fraction_text shares_text hex_word lines_of answer_of written_lines query_line length_in is_bad wanted turn_of first_turn first_length output_within output_from output
examples = (refl, refl, refl, refl)
