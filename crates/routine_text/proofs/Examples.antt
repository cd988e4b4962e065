-- The examples hold, by computation.
use mathlib.Core.Path.{◌≡◌, refl}
use mathlib.Core.Option.{Option-elim}
use Rattle.logic.specs.Search.{◌and◌, ◌or◌, any, select, flat_map}
use Rattle.routine_logic.specs.Examples.{remove, palletiser}
use Rattle.routine_tokens.specs.Tokens.{is_blank, is_letter, is_word_byte, word_length, opens_comment, separates, in_comment, separators, fits, row_of, reserved_kind, digit_kind, word_kind, row_length, token_of, word_of, sign_of, token_at, token_behind, token_in, token_from, tokens_behind, tokens_in, tokens, line_behind, column_behind, line_from, column_from, line_of, column_of}
use Rattle.grammar_theory.specs.Grammar.{alternatives}
use Rattle.grammar_theory.specs.Machine.{predicted, next, expand_by, move, after_expand, after_read, after_perform, moved, run, start, after}
use Rattle.grammar_theory.specs.LL1.{weight, moves, parse}
use Rattle.text.specs.Text.{is_digit}
use Rattle.routine_text.specs.Builder.{word_in, with_names, with_counts, with_terms, with_formulas, with_codes, with_routines, with_marks, accept, mark_at, mark, same_bytes, declares, number_in, link_number, flag_number, is_link, is_flag, declaring, set_links, set_flags, set_routine_names, set_variables, set_bound, set_fresh, declare_link, declare_flag, name_routine, declare_variable, fresh_name, mark_next, end_declarations_of, end_declarations, base_of, set_terms, push_term, name_base, null_base, extended, follow, follow_link, name_member, want_link, want_flag, take_link, assigning, write_link, write_flag, through, by_link, by_first, top_term, count_part, set_opened, set_finished, finish, atom, add_true, add_false, add_equal, add_unequal, add_reaches, add_between, read_flag, tightness, joined, join, join_by, open_now, join_and, join_or, join_implies, join_iff, close_formula, deepens, deepen, negate, open_parenthesis, close_parenthesis, open_forall, declare_bound, open_body, forall_of, close_forall_of, close_forall, negated, equated, quantified, plainly, standings, mark_foralls, judge_foralls, set_conditional, begin_statement, begin_condition, end_condition, closed, set_block, add, variable_of, add_assign, add_assign_link, add_clear, add_set, add_havoc, add_assume, add_assert, add_cover, add_return, add_break, set_nesting, open_block, close_block, inner, open_then, open_loop, ended, else_head, go_on, leave_block, close_then, end_if, close_loop, begin_clause, add_requires, add_ensures, add_invariant, begin_routine, last_name, end_routine}
use Rattle.routine_text.specs.Grammar.{grammar, digits, predictions, facts}
use Rattle.routine_text.specs.Reading.{actions, perform, accepting, does, empty, kinds_of, words_of, ending_on, ending, rank, order, before, earlier, first, place_of, marks_of, length_marks, faults_of, faults, contents_of, contents, judged, said, read_tokens, read_text}
use Rattle.routine_text.specs.Examples.{ExamplesHold, routines_of, routines_in, within, times, answer, in_body, of_text, earlier_place, renumbered, from_zero, required_of, assumed, counted, lines_of, remove_lines, palletiser_lines, walk_lines, walked, spelled, names_in}

pub examples : ExamplesHold
unfolding Option-elim ◌and◌ ◌or◌ remove palletiser is_blank is_letter is_word_byte word_length opens_comment separates in_comment separators fits row_of reserved_kind digit_kind word_kind row_length token_of word_of sign_of token_at token_behind token_in token_from tokens_behind tokens_in tokens line_behind column_behind line_from column_from line_of column_of alternatives predicted next expand_by move after_expand after_read after_perform moved run start after weight moves parse any select flat_map is_digit word_in with_names with_counts with_terms with_formulas with_codes with_routines with_marks accept mark_at mark same_bytes declares number_in link_number flag_number is_link is_flag declaring set_links set_flags set_routine_names set_variables set_bound set_fresh declare_link declare_flag name_routine declare_variable fresh_name mark_next end_declarations_of end_declarations base_of set_terms push_term name_base null_base extended follow follow_link name_member want_link want_flag take_link assigning write_link write_flag through by_link by_first top_term count_part set_opened set_finished finish atom add_true add_false add_equal add_unequal add_reaches add_between read_flag tightness joined join join_by open_now join_and join_or join_implies join_iff close_formula deepens deepen negate open_parenthesis close_parenthesis open_forall declare_bound open_body forall_of close_forall_of close_forall negated equated quantified plainly standings mark_foralls judge_foralls set_conditional begin_statement begin_condition end_condition closed set_block add variable_of add_assign add_assign_link add_clear add_set add_havoc add_assume add_assert add_cover add_return add_break set_nesting open_block close_block inner open_then open_loop ended else_head go_on leave_block close_then end_if close_loop begin_clause add_requires add_ensures add_invariant begin_routine last_name end_routine grammar digits predictions facts actions perform accepting does empty kinds_of words_of ending_on ending rank order before earlier first place_of marks_of length_marks faults_of faults contents_of contents judged said read_tokens read_text routines_of routines_in within times answer in_body of_text earlier_place renumbered from_zero required_of assumed counted lines_of remove_lines palletiser_lines walk_lines walked spelled names_in
examples =
    record {
      paper = record { first_example = refl; second_example = refl };
      whole = record { every_kind = refl; names_told = refl };
      joining = record { tighter_first = refl; and_left = refl; implies_right = refl; negated_item = refl; forall_far = refl };
      branches = record { else_if = refl };
      faults =
          record {
            text_end = refl;
            text_word = refl;
            text_byte = refl;
            text_break = refl;
            break_inside = refl;
            name_undeclared = refl;
            name_twice = refl;
            name_kind = refl;
            name_flag = refl;
            name_local = refl;
            name_next = refl;
            other_link = refl;
            forall_condition = refl;
            forall_negated = refl;
            forall_left = refl;
            forall_same = refl;
            forall_even = refl;
            name_first = refl;
            text_first = refl;
            unfinished_item = refl;
            name_before_limit = refl;
          };
      limits =
          record {
            links_3 = refl;
            links_4 = refl;
            flags_8 = refl;
            flags_9 = refl;
            names_3 = refl;
            names_4 = refl;
            nesting_32 = refl;
            nesting_33 = refl;
            blocks_32 = refl;
            blocks_33 = refl;
            else_ifs = refl;
            statements_256 = refl;
            statements_257 = refl;
            parts_1024 = refl;
            parts_1025 = refl;
            bytes_8192 = refl;
            bytes_8193 = refl;
          };
    }
