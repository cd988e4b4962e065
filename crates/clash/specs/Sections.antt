-- The clash of a path, one section of the query after the other.
use Rattle.std.specs.Prelude.{ℕ, ◌*◌, Bool, List, length, take, drop}
use Rattle.std.proofs.Math.Option.{Option}
use Rattle.logic.specs.Search.{from, keep, first_of, find}
use Rattle.logic.specs.Query.{Literal, literals}
use Rattle.logic.specs.Facts.{Line, line, negated_at, plain_at}

-- `count` literals that stand at a place of the query's bytes, of three bytes each
abbrev pub literals_in : List ℕ → ℕ → ℕ → List Literal
literals_in bytes at count = literals (take (3 * count) (drop at bytes))

-- the lowest negated literal that passes the test
unfoldable pub alone : ℕ → List Literal → (Literal → Bool) → Option Line
alone k ls p = first_of (λ i. keep (negated_at ls i p) (line 9 k i 0)) (from (length ls) 1)

-- the lowest plain partner of the literal at place i, where that is negated
unfoldable pub partner : List Literal → (Literal → Literal → Bool) → ℕ → Option ℕ
partner ls p i = find (λ j. negated_at ls i (λ l. plain_at ls j (p l))) (from (length ls) 1)

-- the lowest negated literal that has a partner, with the lowest of its partners
unfoldable pub paired : ℕ → List Literal → (Literal → Literal → Bool) → Option Line
paired k ls p =
    first_of (λ i. first_of (λ j. keep (negated_at ls i (λ l. plain_at ls j (p l))) (line 9 k i j)) (from (length ls) 1)) (from (length ls) 1)
