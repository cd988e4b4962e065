-- Worked examples of three links (02, R-11), as one table and one statement: of the vectors those that a slip in the definitions moves, and one by hand.
-- The gate runs all vectors.
use Rattle.std.specs.Prelude.{ℕ, ◌≡◌, List, [], ◌∷◌, map}
use Rattle.logic.specs.Calls.{satisfiable, refuted, refused, padded, blank, verdict_call_of, derivation_call_of}
use Rattle.logic.specs.Examples.{Example, in_order}
use Rattle.logic.specs.ThreeLinks.{three_link_form}

-- a query that is satisfiable, with its report in 85 bytes; one that is refuted, with its derivation in 60; and one that is refused
unfoldable pub links_sat : List ℕ → List ℕ → List ℕ → Example
links_sat order query report =
    record {
      order = order;
      query = query;
      verdict = record { answer = satisfiable; lent = padded 85 report };
      derivation = blank 60 (refused 11 0);
    }

unfoldable pub links_unsat : List ℕ → List ℕ → List ℕ → Example
links_unsat order query derivation =
    record {
      order = order;
      query = query;
      verdict = blank 85 refuted;
      derivation = record { answer = refuted; lent = padded 60 derivation };
    }

unfoldable pub links_refused : List ℕ → List ℕ → ℕ → ℕ → Example
links_refused order query number place =
    record { order = order; query = query; verdict = blank 85 (refused number place); derivation = blank 60 (refused number place) }

unfoldable pub link_examples : List Example
link_examples =
    -- "3m successors, link by link": E3 with link 1
    links_sat in_order (2 ∷ 0 ∷ 0 ∷ 0 ∷ 0 ∷ 1 ∷ 0 ∷ 1 ∷ 2 ∷ 2 ∷ 1 ∷ 1 ∷ 1 ∷ 2 ∷ 1 ∷ 1 ∷ 2 ∷ 1 ∷ 0 ∷ 0 ∷ [])
    (6 ∷ 2 ∷ 1 ∷ 1 ∷ 2 ∷ 1 ∷ 2 ∷ 2 ∷ 1 ∷ 2 ∷ 2 ∷ 0 ∷ 0 ∷ 1 ∷ 0 ∷ [])
    -- "within a rule link 1 is tried first", and "A rule line's first byte gains 16 times (link minus 1)": E4 with link 1
    ∷ links_unsat in_order (3 ∷ 0 ∷ 0 ∷ 1 ∷ 1 ∷ 0 ∷ 0 ∷ 1 ∷ 0 ∷ 1 ∷ 3 ∷ 2 ∷ 1 ∷ 1 ∷ 1 ∷ 3 ∷ 0 ∷ 1 ∷ 2 ∷ 3 ∷ 0 ∷ 0 ∷ [])
    (0 ∷ 14 ∷ 1 ∷ 1 ∷ 0 ∷ 0 ∷ 1 ∷ 2 ∷ 0 ∷ 0 ∷ 1 ∷ 3 ∷ 0 ∷ 0 ∷ 17 ∷ 1 ∷ 0 ∷ 0 ∷ 17 ∷ 2 ∷ 0 ∷ 0 ∷ 17 ∷ 3 ∷ 0 ∷ 0 ∷ 33 ∷ 1 ∷ 0 ∷ 0 ∷ 33 ∷ 2 ∷ 0 ∷ 0 ∷ 33 ∷ 3 ∷ 0 ∷ 0 ∷ 2 ∷ 1 ∷ 2 ∷ 0 ∷ 4 ∷ 1 ∷ 2 ∷ 3 ∷ 10 ∷ 1 ∷ 3 ∷ 0 ∷ 9 ∷ 2 ∷ 1 ∷ 0 ∷ 9 ∷ 3 ∷ 2 ∷ 0 ∷ [])
    -- "22 (the lowest such link byte) stands between 4 and 5": a reachability link 4, and a term byte that 5 refuses
    ∷ links_refused in_order (1 ∷ 1 ∷ 1 ∷ 1 ∷ 9 ∷ 9 ∷ 9 ∷ 1 ∷ 9 ∷ 4 ∷ 9 ∷ 9 ∷ 0 ∷ 0 ∷ []) 22 9
    -- "doubled successors are joined by lowest term, then link"
    ∷ links_unsat in_order (6 ∷ 0 ∷ 0 ∷ 0 ∷ 0 ∷ 2 ∷ 1 ∷ 2 ∷ 1 ∷ 1 ∷ 2 ∷ 1 ∷ 2 ∷ 1 ∷ 0 ∷ 1 ∷ 1 ∷ 0 ∷ 0 ∷ 0 ∷ [])
    (0 ∷ 3 ∷ 10 ∷ 3 ∷ 4 ∷ 0 ∷ 10 ∷ 5 ∷ 6 ∷ 0 ∷ 9 ∷ 2 ∷ 1 ∷ 0 ∷ [])
    -- "nil's three self-links are added before their joins"
    ∷ links_unsat in_order (5 ∷ 0 ∷ 0 ∷ 0 ∷ 255 ∷ 1 ∷ 2 ∷ 2 ∷ 2 ∷ 2 ∷ 3 ∷ 1 ∷ 0 ∷ 1 ∷ 1 ∷ 0 ∷ 0 ∷ 0 ∷ [])
    (0 ∷ 4 ∷ 10 ∷ 2 ∷ 3 ∷ 0 ∷ 10 ∷ 2 ∷ 4 ∷ 0 ∷ 10 ∷ 2 ∷ 5 ∷ 0 ∷ 9 ∷ 2 ∷ 1 ∷ 0 ∷ [])
    -- by hand: FUNC by link 2 joins 1 and 3, and what link 2 says of them, 1>3, is then the 3>3 that is denied
    ∷ links_unsat (4 ∷ 1 ∷ 2 ∷ 3 ∷ 5 ∷ 6 ∷ 7 ∷ 8 ∷ []) (3 ∷ 0 ∷ 0 ∷ 2 ∷ 1 ∷ 0 ∷ 0 ∷ 0 ∷ 3 ∷ 1 ∷ 2 ∷ 1 ∷ 3 ∷ 0 ∷ 2 ∷ 3 ∷ 3 ∷ 0 ∷ 2 ∷ 2 ∷ 3 ∷ 0 ∷ 0 ∷ [])
    (0 ∷ 4 ∷ 20 ∷ 1 ∷ 2 ∷ 3 ∷ 10 ∷ 1 ∷ 3 ∷ 0 ∷ 9 ∷ 3 ∷ 2 ∷ 0 ∷ 9 ∷ 3 ∷ 3 ∷ 0 ∷ [])
    ∷ []

-- what the definitions give for an example
unfoldable pub links_computed : Example → Example
links_computed e =
    record {
      order = e.order;
      query = e.query;
      verdict = verdict_call_of three_link_form (record { order = e.order; query = e.query; room = 85 });
      derivation = derivation_call_of three_link_form (record { order = e.order; query = e.query; room = 60 });
    }

-- the statement: each example comes out so, byte for byte
abbrev pub LinkExamplesHold : Type 0
LinkExamplesHold = map links_computed link_examples ≡ link_examples
