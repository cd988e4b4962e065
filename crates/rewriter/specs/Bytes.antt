-- The bytes of the rewritten query, from those of the old one.
use Rattle.std.specs.Prelude.{ℕ, ◌+◌, ◌-◌, ◌*◌, List, [], ◌∷◌, ◌++◌, take, drop}

-- the bytes from one place to another
unfoldable pub cut : List ℕ → ℕ → ℕ → List ℕ
cut bytes from end = take (end - from) (drop from bytes)

-- booleans, sign and number each, as data literals of term t
unfoldable pub field_bytes : ℕ → List ℕ → List ℕ
field_bytes t [] = []
field_bytes t (s ∷ []) = []
field_bytes t (s ∷ a ∷ rest) = s ∷ a ∷ t ∷ field_bytes t rest

-- section 1 of a query of n terms, with a variable more
unfoldable pub term_bytes : ℕ → List ℕ → List ℕ
term_bytes n bytes = ((n + 1) ∷ []) ++ (cut bytes 1 (n + 1) ++ (0 ∷ []))

-- section 4, whose count stands at a place, with the booleans, and section 5
unfoldable pub data_bytes : ℕ → ℕ → ℕ → ℕ → List ℕ → List ℕ
data_bytes place fields count t bytes =
    let end : ℕ = place + 1 + 3 * fields in
    ((fields + count) ∷ []) ++ (cut bytes (place + 1) end ++ (field_bytes t (cut bytes (end + 1) (end + 1 + 2 * count)) ++ (0 ∷ [])))

unfoldable pub rewritten_bytes : ℕ → ℕ → ℕ → ℕ → List ℕ → List ℕ
rewritten_bytes n place fields count bytes =
    term_bytes n bytes ++ (cut bytes (n + 1) place ++ data_bytes place fields count (n + 1) bytes)
