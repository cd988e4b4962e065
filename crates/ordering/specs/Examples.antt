-- Sheets and their answers, as one table and one statement.
use Rattle.std.specs.Prelude.{ℕ, ◌≡◌, List, [], ◌∷◌, map, replicate}
use Rattle.ordering.specs.Calls.{Answer, order, ring, refused, Outcome, order_call}

-- A sheet, and what the call answers and leaves in eight bytes.
pub record Example : Type 0 where
  pub sheet : List ℕ
  pub outcome : Outcome

unfoldable pub example : List ℕ → Answer → List ℕ → Example
example sheet answer lent = record { sheet = sheet; outcome = record { answer = answer; lent = lent } }

unfoldable pub examples : List Example
examples =
    -- no pairs
    example (0 ∷ []) order (1 ∷ 2 ∷ 3 ∷ 4 ∷ 5 ∷ 6 ∷ 7 ∷ 8 ∷ [])
    -- 28 pairs that an order keeps
    ∷ example (28 ∷ 8 ∷ 1 ∷ 2 ∷ 3 ∷ 2 ∷ 4 ∷ 8 ∷ 1 ∷ 8 ∷ 4 ∷ 6 ∷ 3 ∷ 8 ∷ 4 ∷ 2 ∷ 7 ∷ 8 ∷ 3 ∷ 3 ∷ 7 ∷ 6 ∷ 2 ∷ 6 ∷ 3 ∷ 6 ∷ 1 ∷ 8 ∷ 3 ∷ 4 ∷ 7 ∷ 5 ∷ 7 ∷ 5 ∷ 1 ∷ 1 ∷ 4 ∷ 6 ∷ 5 ∷ 3 ∷ 1 ∷ 1 ∷ 7 ∷ 2 ∷ 5 ∷ 4 ∷ 7 ∷ 2 ∷ 4 ∷ 5 ∷ 3 ∷ 6 ∷ 4 ∷ 3 ∷ 1 ∷ 6 ∷ 7 ∷ []) order (6 ∷ 2 ∷ 5 ∷ 8 ∷ 3 ∷ 1 ∷ 4 ∷ 7 ∷ [])
    -- a few pairs
    ∷ example (7 ∷ 6 ∷ 7 ∷ 7 ∷ 2 ∷ 5 ∷ 6 ∷ 6 ∷ 2 ∷ 5 ∷ 2 ∷ 6 ∷ 2 ∷ 6 ∷ 7 ∷ []) order (1 ∷ 3 ∷ 4 ∷ 5 ∷ 6 ∷ 7 ∷ 2 ∷ 8 ∷ [])
    -- rings of one to five
    ∷ example (12 ∷ 5 ∷ 6 ∷ 2 ∷ 5 ∷ 1 ∷ 2 ∷ 7 ∷ 4 ∷ 5 ∷ 1 ∷ 4 ∷ 1 ∷ 5 ∷ 7 ∷ 7 ∷ 5 ∷ 5 ∷ 4 ∷ 1 ∷ 2 ∷ 7 ∷ 2 ∷ 8 ∷ 8 ∷ []) ring (8 ∷ 0 ∷ 0 ∷ 0 ∷ 0 ∷ 0 ∷ 0 ∷ 0 ∷ [])
    ∷ example (12 ∷ 7 ∷ 4 ∷ 7 ∷ 8 ∷ 3 ∷ 8 ∷ 6 ∷ 4 ∷ 5 ∷ 7 ∷ 7 ∷ 5 ∷ 1 ∷ 8 ∷ 3 ∷ 6 ∷ 6 ∷ 4 ∷ 1 ∷ 4 ∷ 6 ∷ 8 ∷ 5 ∷ 6 ∷ []) ring (5 ∷ 7 ∷ 0 ∷ 0 ∷ 0 ∷ 0 ∷ 0 ∷ 0 ∷ [])
    ∷ example (28 ∷ 3 ∷ 7 ∷ 2 ∷ 4 ∷ 6 ∷ 1 ∷ 6 ∷ 8 ∷ 8 ∷ 3 ∷ 6 ∷ 8 ∷ 6 ∷ 3 ∷ 1 ∷ 5 ∷ 4 ∷ 8 ∷ 2 ∷ 8 ∷ 2 ∷ 4 ∷ 4 ∷ 3 ∷ 6 ∷ 5 ∷ 6 ∷ 5 ∷ 6 ∷ 5 ∷ 6 ∷ 1 ∷ 1 ∷ 2 ∷ 4 ∷ 8 ∷ 2 ∷ 4 ∷ 1 ∷ 3 ∷ 5 ∷ 3 ∷ 6 ∷ 7 ∷ 6 ∷ 3 ∷ 7 ∷ 5 ∷ 1 ∷ 8 ∷ 6 ∷ 2 ∷ 6 ∷ 5 ∷ 2 ∷ 3 ∷ []) ring (3 ∷ 7 ∷ 5 ∷ 0 ∷ 0 ∷ 0 ∷ 0 ∷ 0 ∷ [])
    ∷ example (9 ∷ 7 ∷ 2 ∷ 7 ∷ 4 ∷ 7 ∷ 4 ∷ 8 ∷ 6 ∷ 8 ∷ 5 ∷ 8 ∷ 1 ∷ 2 ∷ 8 ∷ 8 ∷ 3 ∷ 3 ∷ 7 ∷ []) ring (2 ∷ 8 ∷ 3 ∷ 7 ∷ 0 ∷ 0 ∷ 0 ∷ 0 ∷ [])
    ∷ example (8 ∷ 1 ∷ 3 ∷ 2 ∷ 7 ∷ 4 ∷ 2 ∷ 8 ∷ 1 ∷ 3 ∷ 6 ∷ 5 ∷ 3 ∷ 7 ∷ 5 ∷ 3 ∷ 4 ∷ []) ring (2 ∷ 7 ∷ 5 ∷ 3 ∷ 4 ∷ 0 ∷ 0 ∷ 0 ∷ [])
    -- no other ring than a rule paired with itself
    ∷ example (2 ∷ 3 ∷ 3 ∷ 1 ∷ 8 ∷ []) ring (3 ∷ 0 ∷ 0 ∷ 0 ∷ 0 ∷ 0 ∷ 0 ∷ 0 ∷ [])
    -- 28 pairs with a ring
    ∷ example (28 ∷ 5 ∷ 3 ∷ 6 ∷ 8 ∷ 7 ∷ 8 ∷ 8 ∷ 7 ∷ 4 ∷ 3 ∷ 2 ∷ 1 ∷ 7 ∷ 8 ∷ 7 ∷ 8 ∷ 5 ∷ 2 ∷ 8 ∷ 3 ∷ 8 ∷ 4 ∷ 5 ∷ 4 ∷ 2 ∷ 2 ∷ 7 ∷ 2 ∷ 8 ∷ 1 ∷ 6 ∷ 3 ∷ 4 ∷ 5 ∷ 7 ∷ 6 ∷ 4 ∷ 2 ∷ 4 ∷ 6 ∷ 7 ∷ 2 ∷ 5 ∷ 8 ∷ 2 ∷ 8 ∷ 7 ∷ 6 ∷ 2 ∷ 5 ∷ 2 ∷ 6 ∷ 5 ∷ 3 ∷ 3 ∷ 6 ∷ []) ring (2 ∷ 0 ∷ 0 ∷ 0 ∷ 0 ∷ 0 ∷ 0 ∷ 0 ∷ [])
    -- refused
    ∷ example ([]) (refused 15 0) (replicate 8 0)
    ∷ example (7 ∷ 7 ∷ 5 ∷ 8 ∷ 6 ∷ []) (refused 15 0) (replicate 8 0)
    ∷ example (3 ∷ 8 ∷ 0 ∷ 8 ∷ 254 ∷ 7 ∷ 4 ∷ []) (refused 16 0) (replicate 8 0)
    ∷ []

-- what the definitions give for an example, beside what it says
unfoldable pub computed : Example → Example
computed e = record { sheet = e.sheet; outcome = order_call e.sheet 8 }

abbrev pub ExamplesHold : Type 0
ExamplesHold = map computed examples ≡ examples
