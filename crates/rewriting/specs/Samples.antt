-- E7 and its rewriting, and the limits: what the call answers and leaves (02, R-13). The gate runs the vectors.
use Rattle.std.specs.Prelude.{ℕ, ◌≡◌, List, [], ◌∷◌, ◌++◌, map, length}
use Rattle.logic.specs.Calls.{padded}
use Rattle.logic.specs.Calls as calls
use Rattle.logic.specs.EdgeExamples.{times}
use Rattle.encoding.specs.WritingCall.{Outcome, written, blank}
use Rattle.rewriting.specs.Call.{rewrite_call}

-- an old query, how many bytes are lent, and what the call answers and leaves
pub record Sample : Type 0 where
  pub query : List ℕ
  pub room : ℕ
  pub outcome : Outcome

abbrev pub rewrites : List ℕ → ℕ → List ℕ → Sample
rewrites query room bytes =
    record { query = query; room = room; outcome = record { answer = written (length bytes); lent = padded room bytes } }

abbrev pub refuses : List ℕ → ℕ → ℕ → ℕ → Sample
refuses query room k place = record { query = query; room = room; outcome = blank room (calls.refused k place) }

unfoldable pub samples : List Sample
samples =
    -- "E7 becomes its rewriting": in just its room, and with a byte less
    rewrites (0 ∷ 0 ∷ 0 ∷ 0 ∷ 2 ∷ 1 ∷ 1 ∷ 0 ∷ 1 ∷ []) 12
    (1 ∷ 0 ∷ 0 ∷ 0 ∷ 2 ∷ 1 ∷ 1 ∷ 1 ∷ 0 ∷ 1 ∷ 1 ∷ 0 ∷ [])
    ∷ refuses (0 ∷ 0 ∷ 0 ∷ 0 ∷ 2 ∷ 1 ∷ 1 ∷ 0 ∷ 1 ∷ []) 11 27 0
    -- a vector: the fresh variable stands last, behind nil and f of a term, and its fields behind the data literals
    ∷ rewrites (7 ∷ 0 ∷ 0 ∷ 2 ∷ 0 ∷ 255 ∷ 2 ∷ 0 ∷ 0 ∷ 0 ∷ 2 ∷ 0 ∷ 8 ∷ 3 ∷ 0 ∷ 8 ∷ 7 ∷ 2 ∷ 0 ∷ 3 ∷ 1 ∷ 6 ∷ []) 25
    (8 ∷ 0 ∷ 0 ∷ 2 ∷ 0 ∷ 255 ∷ 2 ∷ 0 ∷ 0 ∷ 0 ∷ 0 ∷ 4 ∷ 0 ∷ 8 ∷ 3 ∷ 0 ∷ 8 ∷ 7 ∷ 0 ∷ 3 ∷ 8 ∷ 1 ∷ 6 ∷ 8 ∷ 0 ∷ [])
    -- "Booleans, 0 to 60" (01), and data literals likewise: 60, one boolean more, and one data literal more
    ∷ rewrites (0 ∷ 0 ∷ 0 ∷ 0 ∷ 60 ∷ times 60 (1 ∷ 5 ∷ [])) 681
    (1 ∷ 0 ∷ 0 ∷ 0 ∷ 60 ∷ (times 60 (1 ∷ 5 ∷ 1 ∷ []) ++ (0 ∷ [])))
    ∷ refuses (0 ∷ 0 ∷ 0 ∷ 0 ∷ 61 ∷ times 61 (1 ∷ 5 ∷ [])) 681 3 4
    ∷ refuses (1 ∷ 0 ∷ 0 ∷ 0 ∷ 1 ∷ 1 ∷ 8 ∷ 1 ∷ 60 ∷ times 60 (1 ∷ 5 ∷ [])) 681 27 0
    -- 16 terms have no room for one more
    ∷ refuses ((16 ∷ times 16 (0 ∷ [])) ++ (0 ∷ 0 ∷ 0 ∷ 1 ∷ 1 ∷ 8 ∷ [])) 681 27 0
    ∷ []

-- what the definitions give for the samples
unfoldable pub computed : Sample → Sample
computed s = record { query = s.query; room = s.room; outcome = rewrite_call s.query s.room }

abbrev pub SamplesHold : Type 0
SamplesHold = map computed samples ≡ samples
