-- The examples come out, by computation.
use mathlib.Core.Path.{refl}
use mathlib.Core.List.Memᴰ
use Rattle.logic.specs.Search.{◌and◌, ◌or◌, from, any, all}
use Rattle.grammar_theory.specs.Grammar.{alternatives, empty, reading, acting, expanding, symbol_of, grammar_of}
use Rattle.grammar_theory.specs.Machine.{predicted, next, expand_by, move, after_read, after_perform, after_expand, moved, run, start}
use Rattle.grammar_theory.specs.LL1.{has, nullable, first, follow, rank, weight, height, vanish, begin, leading, weigh, lower, ◌implies◌, each, known, followed, fits_kind, fits_rule, fits, ll1, moves, parse}
use Rattle.grammar_theory.specs.Room.{space, growth, space_of, growth_of, fits_size, sized, room, peak_behind, peak}
use Rattle.grammar_theory.specs.Examples.{ExamplesHold, sums, sum_table, facts_with, sum_follows, sum_ranks, sum_facts, choices, choice_table, choice_facts, collect, reads, sizes_with, sum_sizes}

pub examples_hold : ExamplesHold
unfolding ◌and◌ ◌or◌ from any all alternatives symbol_of grammar_of predicted next expand_by move after_read after_perform after_expand moved run start has nullable first follow rank weight height vanish begin leading weigh lower ◌implies◌ each known followed fits_kind fits_rule fits ll1 moves parse sums sum_table facts_with sum_follows sum_ranks sum_facts choices choice_table choice_facts collect reads space growth space_of growth_of fits_size sized room peak_behind peak sizes_with sum_sizes
examples_hold =
    record {
      last_token = refl;
      last_rule = refl;
      first_action = refl;
      sums_pass = refl;
      choices_fail = refl;
      follow_forgotten = refl;
      rank_too_low = refl;
      table_exchanged = refl;
      led_behind = refl;
      accepted_sum = refl;
      derived_number =
          expanding _ (Memᴰ.head refl)
          (expanding _ (Memᴰ.head refl) (reading (acting (expanding _ (Memᴰ.tail (Memᴰ.head refl)) (acting empty)))));
      stuck_number = refl;
      stuck_plus = refl;
      stuck_open = refl;
      stuck_first = refl;
      too_few_moves = refl;
      enough_moves = refl;
      moves_of_two = refl;
      sums_sized = refl;
      growth_too_low = refl;
      peak_of_three = refl;
      room_of_three = refl;
    }
