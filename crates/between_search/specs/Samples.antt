-- What the promise does not say, as one table and one statement: how many between literals there may be, and which bits of data are set.
use Rattle.std.specs.Prelude.{ℕ, ◌≡◌, List, [], ◌∷◌, map}
use Rattle.logic.specs.Calls.{Answer, satisfiable, refused, padded, Outcome}
use Rattle.between_search.specs.Calls.{between_call}

-- A query and how many bytes are lent, and what the call answers and leaves; zeros follow the bytes given.
pub record Sample : Type 0 where
  pub query : List ℕ
  pub room : ℕ
  pub outcome : Outcome

unfoldable pub sample : List ℕ → ℕ → Answer → List ℕ → Sample
sample query room answer bytes = record { query = query; room = room; outcome = record { answer = answer; lent = padded room bytes } }

unfoldable pub samples : List Sample
samples =
    -- "up to 60 such literals": behind five empty sections their count stands at 5; with 60 the query ends inside the section, and 61 is too much
    sample (0 ∷ 0 ∷ 0 ∷ 0 ∷ 0 ∷ 60 ∷ []) 53 (refused 2 6) ([])
    ∷ sample (0 ∷ 0 ∷ 0 ∷ 0 ∷ 0 ∷ 61 ∷ []) 53 (refused 3 5) ([])
    -- "field j in bit j-1, set exactly by a plain literal": two terms differ; field 5 of the first is said plain, 6 of it and 7 of the second negated
    ∷ sample (2 ∷ 0 ∷ 0 ∷ 1 ∷ 0 ∷ 1 ∷ 2 ∷ 0 ∷ 3 ∷ 1 ∷ 5 ∷ 1 ∷ 0 ∷ 6 ∷ 1 ∷ 0 ∷ 7 ∷ 2 ∷ 0 ∷ 0 ∷ []) 53 satisfiable (2 ∷ 1 ∷ 1 ∷ 2 ∷ 1 ∷ 2 ∷ 2 ∷ 16 ∷ 0 ∷ 1 ∷ 0 ∷ [])
    ∷ []

-- what the definitions give for a sample, beside what it says
unfoldable pub computed : Sample → Sample
computed s = record { query = s.query; room = s.room; outcome = between_call s.query s.room }

abbrev pub SamplesHold : Type 0
SamplesHold = map computed samples ≡ samples
