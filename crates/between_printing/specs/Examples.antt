-- What betweenverdict prints of examples, as one table and one statement: two of the vectors, refusals, and queries that are as long as can be.
use Rattle.std.specs.Prelude.{ℕ, ◌≡◌, List, [], ◌∷◌, ◌++◌, map}
use Rattle.logic.specs.Search.{from, flat_map}
use Rattle.text.specs.Text.{ascii}
use Rattle.between_printing.specs.BetweenverdictText.{betweenverdict_text}

-- the input, and what is printed of it
pub record Print : Type 0 where
  pub input : List ℕ
  pub text : List ℕ

-- n variables, and as many literals as a section can have: of each of the equalities, the reachability and the data literals 60 are `1 1 1`, there
-- is no boolean, and 60 between literals are `1 1 1 1`
unfoldable pub longest : ℕ → List ℕ
longest n =
    let pairs : List ℕ = 60 ∷ flat_map (λ i. 1 ∷ 1 ∷ 1 ∷ []) (from 60 1) in
    (n ∷ map (λ i. 0) (from n 1)) ++ (pairs ++ (pairs ++ (pairs ++ (0 ∷ 60 ∷ flat_map (λ i. 1 ∷ 1 ∷ 1 ∷ 1 ∷ []) (from 60 1)))))

unfoldable pub prints : List Print
prints =
    record {
      input = 4 ∷ 0 ∷ 0 ∷ 0 ∷ 0 ∷ 1 ∷ 0 ∷ 1 ∷ 2 ∷ 1 ∷ 1 ∷ 3 ∷ 4 ∷ 0 ∷ 0 ∷ 1 ∷ 1 ∷ 3 ∷ 4 ∷ 1 ∷ [];
      text = ascii "sat\n02 01 01 04 01 02 01 01 02 00 00 01 00\n";
    }
    ∷ record { input = 1 ∷ 0 ∷ 0 ∷ 1 ∷ 1 ∷ 1 ∷ 1 ∷ 0 ∷ 0 ∷ 1 ∷ 0 ∷ 1 ∷ 1 ∷ 1 ∷ []; text = ascii "unsat\n" }
    -- six terms; a sixth section of more than 60 literals; no byte at all
    ∷ record { input = 6 ∷ 0 ∷ 0 ∷ 0 ∷ 0 ∷ 0 ∷ 0 ∷ 0 ∷ 0 ∷ 0 ∷ 0 ∷ 0 ∷ []; text = ascii "refused 21 at 0\n" }
    ∷ record { input = 0 ∷ 0 ∷ 0 ∷ 0 ∷ 0 ∷ 61 ∷ []; text = ascii "refused 3 at 5\n" }
    ∷ record { input = []; text = ascii "refused 2 at 0\n" }
    -- 791 bytes: all are read, and every term names the one node, which has field 1
    ∷ record { input = longest 5; text = ascii "sat\n01 01 05 01 01 01 01 01 01 01 01 00\n" }
    -- 802 bytes, of 16 terms, and a byte behind them
    ∷ record { input = longest 16; text = ascii "refused 21 at 0\n" }
    ∷ record { input = longest 16 ++ (0 ∷ []); text = ascii "refused 4 at 802\n" }
    ∷ []

abbrev pub PrintsHold : Type 0
PrintsHold = map (λ (p : Print). betweenverdict_text p.input) prints ≡ map (λ (p : Print). p.text) prints
