-- The starred examples of 01, as one table and one statement.
use Rattle.std.specs.Prelude.{ℕ, ◌≡◌, List, [], ◌∷◌, ◌++◌, map}
use Rattle.logic.specs.Calls.{Outcome, satisfiable, refuted, refused, padded, blank, verdict_call, derivation_call}

-- An order list and a query, what the verdict call leaves in 53 bytes, and what the derivation call leaves in 64.
pub record Example : Type 0 where
  pub order : List ℕ
  pub query : List ℕ
  pub verdict : Outcome
  pub derivation : Outcome

unfoldable pub in_order : List ℕ
in_order = 1 ∷ 2 ∷ 3 ∷ 4 ∷ 5 ∷ 6 ∷ 7 ∷ 8 ∷ []

-- a query that is satisfiable, with its report; one that is refuted, with its derivation
unfoldable pub sat : List ℕ → List ℕ → List ℕ → Example
sat order query report =
    record {
      order = order;
      query = query;
      verdict = record { answer = satisfiable; lent = padded 53 report };
      derivation = blank 64 (refused 11 0);
    }

unfoldable pub unsat : List ℕ → List ℕ → List ℕ → Example
unsat order query derivation =
    record {
      order = order;
      query = query;
      verdict = blank 53 refuted;
      derivation = record { answer = refuted; lent = padded 64 derivation };
    }

-- E9's terms 1, 2, f(1), f(2), and its literals f(1)=f(2), not 1=2; then come the reachability literals
unfoldable pub ring_terms : List ℕ
ring_terms = 4 ∷ 0 ∷ 0 ∷ 1 ∷ 2 ∷ 2 ∷ 1 ∷ 3 ∷ 4 ∷ 0 ∷ 1 ∷ 2 ∷ []

unfoldable pub examples : List Example
examples =
    -- E1
    sat in_order (0 ∷ 0 ∷ 0 ∷ 0 ∷ 0 ∷ []) (1 ∷ 1 ∷ 0 ∷ 1 ∷ 0 ∷ 1 ∷ 0 ∷ [])
    -- E2
    ∷ sat in_order (1 ∷ 0 ∷ 0 ∷ 0 ∷ 0 ∷ 0 ∷ []) (1 ∷ 1 ∷ 1 ∷ 1 ∷ 1 ∷ 0 ∷ 1 ∷ 0 ∷ [])
    -- E3
    ∷ sat in_order (2 ∷ 0 ∷ 0 ∷ 1 ∷ 0 ∷ 1 ∷ 2 ∷ 2 ∷ 1 ∷ 1 ∷ 2 ∷ 1 ∷ 2 ∷ 1 ∷ 0 ∷ 0 ∷ [])
    (2 ∷ 2 ∷ 1 ∷ 2 ∷ 1 ∷ 2 ∷ 2 ∷ 0 ∷ 0 ∷ 1 ∷ 0 ∷ [])
    -- E4, under both orders
    ∷ unsat in_order (3 ∷ 0 ∷ 1 ∷ 0 ∷ 1 ∷ 0 ∷ 1 ∷ 3 ∷ 2 ∷ 1 ∷ 1 ∷ 3 ∷ 0 ∷ 2 ∷ 3 ∷ 0 ∷ 0 ∷ [])
    (0 ∷ 8
    ∷ 1 ∷ 1 ∷ 0 ∷ 0 ∷ 1 ∷ 2 ∷ 0 ∷ 0 ∷ 1 ∷ 3 ∷ 0 ∷ 0 ∷ 2 ∷ 1 ∷ 2 ∷ 0
    ∷ 4 ∷ 1 ∷ 2 ∷ 3 ∷ 10 ∷ 1 ∷ 3 ∷ 0 ∷ 9 ∷ 2 ∷ 1 ∷ 0 ∷ 9 ∷ 3 ∷ 2 ∷ 0 ∷ [])
    ∷ unsat (4 ∷ 1 ∷ 2 ∷ 3 ∷ 5 ∷ 6 ∷ 7 ∷ 8 ∷ []) (3 ∷ 0 ∷ 1 ∷ 0 ∷ 1 ∷ 0 ∷ 1 ∷ 3 ∷ 2 ∷ 1 ∷ 1 ∷ 3 ∷ 0 ∷ 2 ∷ 3 ∷ 0 ∷ 0 ∷ [])
    (0 ∷ 4
    ∷ 4 ∷ 1 ∷ 2 ∷ 3 ∷ 10 ∷ 1 ∷ 3 ∷ 0 ∷ 9 ∷ 2 ∷ 1 ∷ 0 ∷ 9 ∷ 3 ∷ 2 ∷ 0 ∷ [])
    -- E5
    ∷ unsat in_order (1 ∷ 0 ∷ 0 ∷ 1 ∷ 0 ∷ 1 ∷ 1 ∷ 0 ∷ 0 ∷ []) (0 ∷ 2 ∷ 1 ∷ 1 ∷ 0 ∷ 0 ∷ 9 ∷ 3 ∷ 1 ∷ 0 ∷ [])
    -- E6
    ∷ unsat in_order (3 ∷ 0 ∷ 1 ∷ 1 ∷ 1 ∷ 0 ∷ 2 ∷ 3 ∷ 0 ∷ 0 ∷ 0 ∷ []) (0 ∷ 2 ∷ 10 ∷ 2 ∷ 3 ∷ 0 ∷ 9 ∷ 2 ∷ 1 ∷ 0 ∷ [])
    -- "E7 becomes its rewriting, with one line, 9 4 2 1" (02, R-13)
    ∷ unsat in_order (1 ∷ 0 ∷ 0 ∷ 0 ∷ 2 ∷ 1 ∷ 1 ∷ 1 ∷ 0 ∷ 1 ∷ 1 ∷ 0 ∷ []) (0 ∷ 1 ∷ 9 ∷ 4 ∷ 2 ∷ 1 ∷ [])
    -- E8
    ∷ unsat in_order (2 ∷ 0 ∷ 0 ∷ 1 ∷ 1 ∷ 1 ∷ 2 ∷ 0 ∷ 2 ∷ 1 ∷ 1 ∷ 1 ∷ 0 ∷ 1 ∷ 2 ∷ 0 ∷ []) (0 ∷ 2 ∷ 10 ∷ 1 ∷ 2 ∷ 0 ∷ 9 ∷ 4 ∷ 2 ∷ 1 ∷ [])
    -- E9, and without 2>1
    ∷ unsat in_order (ring_terms ++ (2 ∷ 1 ∷ 1 ∷ 2 ∷ 1 ∷ 2 ∷ 1 ∷ 0 ∷ 0 ∷ []))
    (0 ∷ 13
    ∷ 10 ∷ 3 ∷ 4 ∷ 0
    ∷ 1 ∷ 1 ∷ 0 ∷ 0 ∷ 1 ∷ 2 ∷ 0 ∷ 0 ∷ 1 ∷ 3 ∷ 0 ∷ 0 ∷ 2 ∷ 1 ∷ 3 ∷ 0
    ∷ 2 ∷ 2 ∷ 3 ∷ 0 ∷ 4 ∷ 1 ∷ 3 ∷ 2 ∷ 10 ∷ 1 ∷ 2 ∷ 0 ∷ 9 ∷ 2 ∷ 2 ∷ 0 ∷ 3 ∷ 3 ∷ 2 ∷ 1
    ∷ 8 ∷ 1 ∷ 2 ∷ 3 ∷ 10 ∷ 1 ∷ 2 ∷ 0 ∷ 9 ∷ 2 ∷ 2 ∷ 0 ∷ [])
    ∷ sat in_order (ring_terms ++ (1 ∷ 1 ∷ 1 ∷ 2 ∷ 0 ∷ 0 ∷ []))
    (3 ∷ 3 ∷ 3 ∷ 2 ∷ 4 ∷ 1 ∷ 2 ∷ 3 ∷ 3 ∷ 3 ∷ 0 ∷ 0 ∷ 0 ∷ 1 ∷ 0 ∷ [])
    ∷ []

-- what the definitions give for an example, beside what 01 says
unfoldable pub computed : Example → Example
computed e =
    record {
      order = e.order;
      query = e.query;
      verdict = verdict_call (record { order = e.order; query = e.query; room = 53 });
      derivation = derivation_call (record { order = e.order; query = e.query; room = 64 });
    }

-- the statement: each example comes out as 01 says, byte for byte
abbrev pub ExamplesHold : Type 0
ExamplesHold = map computed examples ≡ examples
