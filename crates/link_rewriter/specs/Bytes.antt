-- The bytes of the rewritten query, from those in the old layout.
use Rattle.std.specs.Prelude.{ℕ, ◌+◌, ◌*◌, List, [], ◌∷◌, ◌++◌, length}
use Rattle.logic.specs.Search.{flat_map}
use Rattle.rewriter.specs.Bytes.{cut}
use Rattle.link_rewriting.specs.LinkedQuery.{entry_bytes}

-- literals of three bytes, each with link 1 behind its sign
unfoldable pub with_links : List ℕ → List ℕ
with_links [] = []
with_links (s ∷ []) = []
with_links (s ∷ a ∷ []) = []
with_links (s ∷ a ∷ b ∷ rest) = s ∷ 1 ∷ a ∷ b ∷ with_links rest

-- of a query of n terms, with so many reachability literals at a place
unfoldable pub rewritten_bytes : ℕ → ℕ → ℕ → List ℕ → List ℕ
rewritten_bytes n at count bytes =
    let behind : ℕ = at + 3 * count in
    (n ∷ [])
    ++ (flat_map entry_bytes (cut bytes 1 (n + 1)) ++ (cut bytes (n + 1) at ++ (with_links (cut bytes at behind) ++ cut bytes behind (length bytes))))
