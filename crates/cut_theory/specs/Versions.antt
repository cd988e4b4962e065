-- A link after some assignments, and the link that is cut at the nodes that are assigned (03, "A way": cut links). Assignments and cuts are numbered
-- from 0.
use Rattle.std.specs.Prelude.{ℕ, zero, suc, Bool, not, cond, eqb, ltb}
use Rattle.logic.specs.Search.{◌and◌, from, any, all}
use Rattle.routine_logic.specs.State.{changed}

-- "after the first j assignments": x i is the node that assignment i is to, y i what it gives. Links and flags alike.
unfoldable pub version : {A : Type 0} → (ℕ → A) → (ℕ → ℕ) → (ℕ → A) → ℕ → ℕ → A
version f x y zero = f
version f x y (suc j) = changed (version f x y j) (x j) (y j)

-- v is one of the first n cuts
unfoldable pub is_cut : (ℕ → ℕ) → ℕ → ℕ → Bool
is_cut c n v = any (λ i. eqb (c i) v) (from n 0)

-- "let h be f as it was at the segment's start, but with each xi leading to itself"
unfoldable pub cut : (ℕ → ℕ) → (ℕ → ℕ) → ℕ → ℕ → ℕ
cut f c n v = cond (is_cut c n v) v (f v)

-- "a jump to yi (or, not yet assigned, to wi)", what f led to from cut i
unfoldable pub target : {A : Type 0} → (ℕ → A) → (ℕ → ℕ) → (ℕ → A) → ℕ → ℕ → A
target f c y j i = cond (ltb i j) (y i) (f (c i))

-- no cut of the numbers from i on, k of them, is the node v
unfoldable pub free_of : (ℕ → ℕ) → ℕ → ℕ → ℕ → Bool
free_of c v k i = all (λ m. not (eqb (c m) v)) (from k i)

-- "some xi, which is not overwritten by then": of two cuts that are one node the last assignment counts, "and what stood there at first counts once",
-- at the first of them
unfoldable pub active : (ℕ → ℕ) → ℕ → ℕ → Bool
active c j i = cond (ltb i j) (all (λ m. not (ltb i m and eqb (c m) (c i))) (from j 0)) (free_of c (c i) i 0)
