-- The samples come out as they are listed, by computation.
use mathlib.Core.Path.{refl}
use Rattle.logic.specs.Search.{◌and◌, ◌or◌, from}
use Rattle.text.specs.Text.{is_digit}
use Rattle.routine_tokens.specs.Tokens.{is_blank, is_letter, is_word_byte, word_length, opens_comment, separates, in_comment, separators}
use Rattle.routine_tokens.specs.Tokens.{fits, row_of, row_length, reserved_kind, digit_kind, word_kind, token_of, word_of, sign_of, token_at}
use Rattle.routine_tokens.specs.Tokens.{token_behind, token_in, tokens_behind, tokens_in, tokens}
use Rattle.routine_tokens.specs.Tokens.{line_behind, column_behind, line_from, column_from, line_of, column_of}
use Rattle.routine_tokens.specs.Samples.{SamplesHold, sample, kinds_of, samples, computed, placed, two_lines}

pub samples_hold : SamplesHold
unfolding ◌and◌ ◌or◌ from is_digit is_blank is_letter is_word_byte word_length opens_comment separates in_comment separators fits row_of row_length reserved_kind digit_kind word_kind token_of word_of sign_of token_at token_behind token_in tokens_behind tokens_in tokens line_behind column_behind line_from column_from line_of column_of sample kinds_of samples computed placed two_lines
samples_hold =
    record { kinds_hold = refl; places_hold = refl; line_holds = refl; column_holds = refl; first_line_lem = refl; first_column = refl }
