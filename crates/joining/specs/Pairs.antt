-- The pair list: "a list of pairs after a count of 0 to 60 (term of the first, term of the second)" (02, R-12).
use Rattle.std.specs.Prelude.{ℕ, ◌+◌, ◌*◌, Bool, List, [], ◌∷◌, length, drop, eqb, ltb, leb}
use Rattle.logic.specs.Search.{◌and◌, all}
use Rattle.logic.specs.Query.{first_byte}

pub record Pair : Type 0 where
  pub first : ℕ
  pub second : ℕ

unfoldable pub pairs : List ℕ → List Pair
pairs [] = []
pairs (a ∷ []) = []
pairs (a ∷ b ∷ rest) = record { first = a; second = b } ∷ pairs rest

-- what the bytes behind the count say
unfoldable pub pairs_of : List ℕ → List Pair
pairs_of bytes = pairs (drop 1 bytes)

-- each query has its term of the pair: terms are numbered from 1, to n and to m
unfoldable pub has_terms : ℕ → ℕ → Pair → Bool
has_terms n m p = ltb 0 p.first and leb p.first n and (ltb 0 p.second and leb p.second m)

-- not "23 a pair list of wrong length or count, or with a term its query lacks"
unfoldable pub is_pair_list : ℕ → ℕ → List ℕ → Bool
is_pair_list n m bytes =
    let count : ℕ = first_byte bytes in
    leb count 60 and eqb (length bytes) (1 + 2 * count) and all (has_terms n m) (pairs_of bytes)
