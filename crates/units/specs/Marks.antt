-- What the rows that the searches read say: of the literals of a query, by the terms that stand for theirs, and of other rows.
use Rattle.std.specs.Prelude.{ℕ, ◌≤◌, ◌≡◌, Bool, not, List, get_or, eqb, ltb}
use Rattle.std.specs.Bool.{beq}
use Rattle.logic.specs.Search.{◌and◌, ◌or◌, from, any}
use Rattle.logic.specs.Query.{Literal}
use Rattle.rows.specs.Bits.{bit}
use Rattle.rows.specs.Square.{row_of, square}

-- a row with more in it, where it is one of the 17, and no other change
abbrev pub Marked : List ℕ → List ℕ → ℕ → ℕ → Type 0
Marked later rows a more = (x y : ℕ) → square later x y ≡ (square rows x y or (ltb a 17 and eqb x a and row_of more y))

-- a and b stand for the terms of a literal, in this order
unfoldable pub stand_for : (ℕ → ℕ) → ℕ → ℕ → Literal → Bool
stand_for rep a b l = eqb a (rep l.left) and eqb b (rep l.right)

-- a negated equality holds them apart, whichever stands for which
unfoldable pub holds_apart : (ℕ → ℕ) → ℕ → ℕ → Literal → Bool
holds_apart rep a b l = not l.plain and (stand_for rep a b l or stand_for rep b a l)

-- a negated reachability literal of link k denies that a reaches b
unfoldable pub denies : (ℕ → ℕ) → ℕ → ℕ → ℕ → Literal → Bool
denies rep k a b l = not l.plain and eqb l.link k and stand_for rep a b l

-- a data literal of this sign gives the term a the field j
unfoldable pub gives : (ℕ → ℕ) → Bool → ℕ → ℕ → Literal → Bool
gives rep plain a j l = beq l.plain plain and eqb a (rep l.right) and eqb j l.left

-- the rows hold of a and b what some literal says of them
abbrev pub SaidOf : (ℕ → ℕ → Literal → Bool) → List Literal → List ℕ → Type 0
SaidOf says ls rows = (a b : ℕ) → a ≤ 16 → b ≤ 16 → square rows a b ≡ any (says a b) ls

-- more in each row of some, and no other change
abbrev pub Spread : List ℕ → List ℕ → ℕ → ℕ → Type 0
Spread later rows some more = (x y : ℕ) → square later x y ≡ (square rows x y or (row_of some x and row_of more y))

-- two rows have a number in common
unfoldable pub meet : ℕ → ℕ → Bool
meet v w = any (λ i. bit v i and bit w i) (from 32 0)

-- what a has in the first rows, b has in the second
unfoldable pub oppose : List ℕ → List ℕ → ℕ → ℕ → Bool
oppose some other a b = ltb a 17 and (ltb b 17 and meet (get_or other b 0) (get_or some a 0))

-- some term that reaches x is denied to reach a term that y reaches
unfoldable pub barred : List ℕ → List ℕ → ℕ → ℕ → Bool
barred reach denied x y = any (λ t. square reach t x and meet (get_or reach y 0) (get_or denied t 0)) (from 17 0)
