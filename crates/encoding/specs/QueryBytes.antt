-- The bytes of a query that a call writes or hands on (01, "Query bytes"): what `decode` reads back.
use Rattle.std.specs.Prelude.{ℕ, Bool, cond, List, [], ◌∷◌, ◌++◌, length, leb}
use Rattle.logic.specs.Search.{◌and◌, flat_map}
use Rattle.logic.specs.Query.{Literal, Query, term_count}

-- "Sign 1 is plain, 0 negated."
unfoldable pub sign_byte : Bool → ℕ
sign_byte plain = cond plain 1 0

-- a literal of three bytes: its link, which is 1, is not written
unfoldable pub literal_bytes : Literal → List ℕ
literal_bytes l = sign_byte l.plain ∷ l.left ∷ l.right ∷ []

-- a section's literals "after a one-byte count"
unfoldable pub section_bytes : List Literal → List ℕ
section_bytes ls = length ls ∷ flat_map literal_bytes ls

-- "Five sections in this order, each after a one-byte count"; the last one's "count must now be 0" (02, R-13)
unfoldable pub encode : Query → List ℕ
encode q =
    (term_count q ∷ q.entries.terms)
    ++ (section_bytes q.equalities ++ (section_bytes q.reachability ++ (section_bytes q.fields ++ (0 ∷ []))))

-- the limits of the sections: 16 terms, 60 literals
unfoldable pub within_limits : Query → Bool
within_limits q =
    leb (term_count q) 16 and leb (length q.equalities) 60 and leb (length q.reachability) 60 and leb (length q.fields) 60
