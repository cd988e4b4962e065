-- Samples of the joining call and the hand-back, one of the vectors of R-12 and the limits: what they answer (02, R-12).
use Rattle.std.specs.Prelude.{ℕ, ◌≡◌, List, [], ◌∷◌, ◌++◌, map, length, replicate}
use Rattle.logic.specs.Calls.{padded}
use Rattle.logic.specs.EdgeExamples.{times}
use Rattle.joining.specs.Call.{Answer, written, first_refused, second_refused, refused, Outcome, join_call}
use Rattle.joining.specs.HandBack.{Handed, hand_back_call}
use Rattle.joining.specs.HandBack as handed

-- two queries, a pair list, how many bytes are lent, and what the call answers and leaves
pub record JoinSample : Type 0 where
  pub first : List ℕ
  pub second : List ℕ
  pub pairs : List ℕ
  pub room : ℕ
  pub outcome : Outcome

abbrev pub joins : List ℕ → List ℕ → List ℕ → ℕ → List ℕ → JoinSample
joins first second pairs room bytes =
    record {
      first = first;
      second = second;
      pairs = pairs;
      room = room;
      outcome = record { answer = written (length bytes); lent = padded room bytes };
    }

abbrev pub refuses : List ℕ → List ℕ → List ℕ → ℕ → Answer → JoinSample
refuses first second pairs room a =
    record { first = first; second = second; pairs = pairs; room = room; outcome = record { answer = a; lent = replicate room 0 } }

-- two queries of a vector, of 2 and 5 terms, and one of none
abbrev pub two : List ℕ
two = 2 ∷ 0 ∷ 1 ∷ 0 ∷ 0 ∷ 1 ∷ 0 ∷ 7 ∷ 2 ∷ 0 ∷ []

abbrev pub five : List ℕ
five = 5 ∷ 255 ∷ 0 ∷ 1 ∷ 0 ∷ 0 ∷ 2 ∷ 0 ∷ 4 ∷ 4 ∷ 0 ∷ 1 ∷ 1 ∷ 3 ∷ 0 ∷ 5 ∷ 5 ∷ 1 ∷ 4 ∷ 1 ∷ 0 ∷ 5 ∷ 2 ∷ 1 ∷ 0 ∷ 7 ∷ 1 ∷ 0 ∷ []

abbrev pub none : List ℕ
none = 0 ∷ 0 ∷ 0 ∷ 0 ∷ 0 ∷ []

-- n variables and nothing said of them
abbrev pub variables : ℕ → List ℕ
variables n = n ∷ (replicate n 0 ++ (0 ∷ 0 ∷ 0 ∷ 0 ∷ []))

unfoldable pub join_samples : List JoinSample
join_samples =
    -- every section, 0 and 255 kept, a pair twice: in just its room, and with a byte less
    joins two five (3 ∷ 1 ∷ 1 ∷ 1 ∷ 1 ∷ 1 ∷ 4 ∷ []) 42
    (7 ∷ 0 ∷ 1 ∷ 255 ∷ 0 ∷ 3 ∷ 0 ∷ 0 ∷ 5 ∷ 0 ∷ 6 ∷ 6 ∷ 0 ∷ 3 ∷ 3 ∷ 1 ∷ 1 ∷ 3 ∷ 1 ∷ 1 ∷ 3 ∷ 1 ∷ 1 ∷ 6 ∷ 3 ∷ 0 ∷ 7 ∷ 7 ∷ 1 ∷ 6 ∷ 3 ∷ 0 ∷ 7 ∷ 4 ∷ 2 ∷ 0 ∷ 7 ∷ 2 ∷ 0 ∷ 7 ∷ 3 ∷ 0 ∷ [])
    ∷ refuses two five (3 ∷ 1 ∷ 1 ∷ 1 ∷ 1 ∷ 1 ∷ 4 ∷ []) 41 (refused 24 0)
    -- "a count of 0 to 60"
    ∷ joins (variables 1) (variables 1) (60 ∷ times 60 (1 ∷ 1 ∷ [])) 681
    (2 ∷ 0 ∷ 0 ∷ 60 ∷ (times 60 (1 ∷ 1 ∷ 2 ∷ []) ++ (0 ∷ 0 ∷ 0 ∷ [])))
    ∷ refuses (variables 1) (variables 1) (61 ∷ times 61 (1 ∷ 1 ∷ [])) 681 (refused 23 0)
    -- an equality more than 60
    ∷ refuses (variables 1) (1 ∷ 0 ∷ 1 ∷ 1 ∷ 1 ∷ 1 ∷ 0 ∷ 0 ∷ 0 ∷ []) (60 ∷ times 60 (1 ∷ 1 ∷ [])) 681 (refused 24 0)
    -- 16 terms, and one more: 24, but 23 before it
    ∷ joins (variables 9) (variables 7) (0 ∷ []) 681 (variables 16)
    ∷ refuses (variables 9) (variables 8) (0 ∷ []) 681 (refused 24 0)
    ∷ refuses (variables 9) (variables 8) (1 ∷ 9 ∷ 9 ∷ []) 681 (refused 23 0)
    -- "26 a boolean count above 0 (that count's place)" (02, R-13), of the first before the second, and before a byte behind it
    ∷ refuses (1 ∷ 0 ∷ 0 ∷ 0 ∷ 0 ∷ 1 ∷ 1 ∷ 1 ∷ []) (0 ∷ 0 ∷ 0 ∷ 0 ∷ 1 ∷ 1 ∷ 1 ∷ []) (0 ∷ []) 561 (first_refused 26 5)
    ∷ refuses none (0 ∷ 0 ∷ 0 ∷ 0 ∷ 1 ∷ 1 ∷ 1 ∷ 0 ∷ []) (61 ∷ []) 561 (second_refused 26 4)
    ∷ []

-- two queries and a line, and what is handed back
pub record HandSample : Type 0 where
  pub first : List ℕ
  pub second : List ℕ
  pub line : List ℕ
  pub answer : Handed

abbrev pub hands : List ℕ → List ℕ → List ℕ → Handed → HandSample
hands first second line answer = record { first = first; second = second; line = line; answer = answer }

unfoldable pub hand_samples : List HandSample
hand_samples =
    -- a literal of either, in each section; the pair's equality behind them is none
    hands two five (9 ∷ 2 ∷ 1 ∷ 0 ∷ []) (handed.in_second 7 3)
    ∷ hands two five (9 ∷ 2 ∷ 2 ∷ 0 ∷ []) (handed.in_second 10 3)
    ∷ hands two five (9 ∷ 2 ∷ 3 ∷ 0 ∷ []) (handed.refused 25 0)
    ∷ hands two five (9 ∷ 3 ∷ 1 ∷ 0 ∷ []) (handed.in_second 14 3)
    ∷ hands two five (9 ∷ 4 ∷ 1 ∷ 0 ∷ []) (handed.in_first 6 3)
    ∷ hands two five (9 ∷ 4 ∷ 2 ∷ 0 ∷ []) (handed.in_second 24 3)
    -- an empty line, one that is cut, and one that is no clash
    ∷ hands two five [] (handed.refused 25 0)
    ∷ hands two five (9 ∷ 4 ∷ []) (handed.refused 25 0)
    ∷ hands two five (8 ∷ 4 ∷ 1 ∷ 0 ∷ []) (handed.refused 25 0)
    -- section 5 names no literal
    ∷ hands two five (9 ∷ 5 ∷ 1 ∷ 1 ∷ []) (handed.refused 25 0)
    -- "25 .. after 2 to 8 alone", and 26 (02, R-13), of the first before the second
    ∷ hands (1 ∷ []) (1 ∷ []) (8 ∷ []) (handed.first_refused 2 1)
    ∷ hands two (0 ∷ 0 ∷ 0 ∷ 0 ∷ 1 ∷ 1 ∷ 1 ∷ []) (8 ∷ []) (handed.second_refused 26 4)
    ∷ []

-- what the definitions give for the samples
unfoldable pub join_computed : JoinSample → JoinSample
join_computed s =
    record {
      first = s.first;
      second = s.second;
      pairs = s.pairs;
      room = s.room;
      outcome = join_call s.first s.second s.pairs s.room;
    }

unfoldable pub hand_computed : HandSample → HandSample
hand_computed s =
    record { first = s.first; second = s.second; line = s.line; answer = hand_back_call s.first s.second s.line }

pub record SamplesHold : Type 0 where
  pub joins_hold : map join_computed join_samples ≡ join_samples
  pub hands_hold : map hand_computed hand_samples ≡ hand_samples
