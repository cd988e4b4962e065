-- Sums with parentheses: kind 1 is a number, 2 `+`, 3 `(` and 4 `)`. Action 0 is done behind a number, action 1 behind the second of two items that are
-- added, action 2 behind a sum, where only the next token says that it is one.
use Rattle.std.specs.Prelude.{ℕ, ◌≡◌, true, false, List, [], ◌∷◌, ◌++◌}
use Rattle.grammar_theory.specs.Grammar.{token, rule, action, Kinds, Grammar, Step, shift, act, Steps, Text, symbol_of, grammar_of}
use Rattle.grammar_theory.specs.Machine.{Table, Ending, accepted, stuck, unfinished, run, start}
use Rattle.grammar_theory.specs.LL1.{Facts, leading, ll1, moves, parse}
use Rattle.grammar_theory.specs.Room.{Sizes, sized, room, peak}

-- sum = item more, more = "+" item more | nothing, item = number | "(" sum ")"
unfoldable pub sums : Grammar
sums =
    grammar_of (
    ((66 ∷ 65 ∷ 130 ∷ []) ∷ [])
    ∷ ((2 ∷ 66 ∷ 129 ∷ 65 ∷ []) ∷ [] ∷ [])
    ∷ ((1 ∷ 128 ∷ []) ∷ (3 ∷ 64 ∷ 4 ∷ []) ∷ [])
    ∷ []
    )

unfoldable pub sum_table : Table
sum_table = (0 ∷ 0 ∷ 0 ∷ 0 ∷ 0 ∷ []) ∷ (1 ∷ 1 ∷ 0 ∷ 1 ∷ 1 ∷ []) ∷ (2 ∷ 0 ∷ 2 ∷ 1 ∷ 2 ∷ []) ∷ []

-- the facts, but for what follows and the ranks
unfoldable pub facts_with : List ℕ → List ℕ → Facts
facts_with follows ranks =
    record {
      kinds = 5;
      top = 2;
      heaviest = 2;
      nullables = 0b010;
      firsts = 0 ∷ 0b101 ∷ 0b010 ∷ 0b101 ∷ 0 ∷ [];
      follows = follows;
      ranks = ranks;
      weights = 0 ∷ 1 ∷ 0 ∷ [];
      heights = 2 ∷ 1 ∷ 1 ∷ [];
    }

unfoldable pub sum_follows : List ℕ
sum_follows = 0b111 ∷ 0 ∷ 0b100 ∷ 0 ∷ 0b111 ∷ []

unfoldable pub sum_ranks : List ℕ
sum_ranks = 1 ∷ 0 ∷ 0 ∷ []

unfoldable pub sum_facts : Facts
sum_facts = facts_with sum_follows sum_ranks

-- sum = item | item "+" sum, item = number: two alternatives begin alike
unfoldable pub choices : Grammar
choices = grammar_of (((65 ∷ []) ∷ (65 ∷ 2 ∷ 64 ∷ []) ∷ []) ∷ ((1 ∷ []) ∷ []) ∷ [])

unfoldable pub choice_table : Table
choice_table = (0 ∷ 1 ∷ 0 ∷ []) ∷ (0 ∷ 0 ∷ 0 ∷ []) ∷ []

unfoldable pub choice_facts : Facts
choice_facts =
    record {
      kinds = 3;
      top = 2;
      heaviest = 0;
      nullables = 0;
      firsts = 0 ∷ 0b11 ∷ 0 ∷ [];
      follows = 0b11 ∷ 0 ∷ 0b10 ∷ [];
      ranks = 1 ∷ 0 ∷ [];
      weights = 0 ∷ 0 ∷ [];
      heights = 2 ∷ 1 ∷ [];
    }

-- the steps themselves, in order
unfoldable pub collect : Step → Steps → Steps
collect s steps = steps ++ (s ∷ [])

unfoldable pub reads : Kinds → Ending Steps
reads ks = parse collect sums sum_table sum_facts 0 ks []

-- of each rule: it counts for itself; with these growths
unfoldable pub sizes_with : List ℕ → Sizes
sizes_with growths = record { spaces = []; growths = growths; most = 4 }

unfoldable pub sum_sizes : Sizes
sum_sizes = sizes_with (4 ∷ 3 ∷ 2 ∷ [])

pub record ExamplesHold : Type 0 where
  pub last_token : symbol_of 63 ≡ token 63
  pub last_rule : symbol_of 127 ≡ rule 63
  pub first_action : symbol_of 128 ≡ action 0
  pub sums_pass : ll1 sums sum_table sum_facts 0 ≡ true
  pub choices_fail : ll1 choices choice_table choice_facts 0 ≡ false
  -- `)` forgotten behind a sum; a rank that is not above that of the rule in front; the table's alternative for `)` exchanged
  pub follow_forgotten : ll1 sums sum_table (facts_with (0b111 ∷ 0 ∷ 0b100 ∷ 0 ∷ 0 ∷ []) sum_ranks) 0 ≡ false
  pub rank_too_low : ll1 sums sum_table (facts_with sum_follows (0 ∷ 0 ∷ 0 ∷ [])) 0 ≡ false
  pub table_exchanged : ll1 sums ((0 ∷ 0 ∷ 0 ∷ 0 ∷ 0 ∷ []) ∷ (1 ∷ 1 ∷ 0 ∷ 1 ∷ 0 ∷ []) ∷ (2 ∷ 0 ∷ 2 ∷ 1 ∷ 2 ∷ []) ∷ []) sum_facts 0 ≡ false
  -- a rule behind one that can vanish is led to
  pub led_behind : leading sum_facts (rule 1 ∷ rule 0 ∷ []) ≡ 2
  -- 1 + (1)
  pub accepted_sum : reads (1 ∷ 2 ∷ 3 ∷ 1 ∷ 4 ∷ []) ≡
      accepted (shift 1 ∷ act 0 ∷ shift 2 ∷ shift 3 ∷ shift 1 ∷ act 0 ∷ act 2 ∷ shift 4 ∷ act 1 ∷ act 2 ∷ [])
  pub derived_number : Text sums 0 (1 ∷ []) (shift 1 ∷ act 0 ∷ act 2 ∷ [])
  -- 1 1: the end of the sum is not certain before its next token, which cannot stand there
  pub stuck_number : reads (1 ∷ 1 ∷ []) ≡ stuck (1 ∷ []) (shift 1 ∷ act 0 ∷ [])
  -- 1 + and (1 end too early; ) begins no sum
  pub stuck_plus : reads (1 ∷ 2 ∷ []) ≡ stuck [] (shift 1 ∷ act 0 ∷ shift 2 ∷ [])
  pub stuck_open : reads (3 ∷ 1 ∷ []) ≡ stuck [] (shift 3 ∷ shift 1 ∷ act 0 ∷ [])
  pub stuck_first : reads (4 ∷ []) ≡ stuck (4 ∷ []) []
  pub too_few_moves : run collect sums sum_table 6 (start 0 (1 ∷ []) []) ≡ unfinished
  pub enough_moves : run collect sums sum_table 7 (start 0 (1 ∷ []) []) ≡ accepted (shift 1 ∷ act 0 ∷ act 2 ∷ [])
  pub moves_of_two : moves sum_facts 0 2 ≡ 21
  -- a sum grows by the two symbols beside an item and by what the item grows by
  pub sums_sized : sized sum_sizes sum_facts sums ≡ true
  pub growth_too_low : sized (sizes_with (3 ∷ 3 ∷ 2 ∷ [])) sum_facts sums ≡ false
  -- ((1: each of the two parentheses leaves what is to be read behind it
  pub peak_of_three : peak sums sum_table 50 (rule 0 ∷ []) (3 ∷ 3 ∷ 1 ∷ []) ≡ 10
  pub room_of_three : room sum_sizes 0 3 ≡ 17
