-- A relation on the numbers 0 to 16, held as 17 rows: that of a and b is bit b of row a.
use Rattle.std.specs.Prelude.{ℕ, ◌≡◌, Bool, List, get_or, ltb}
use Rattle.logic.specs.Search.{◌and◌, any}
use Rattle.logic.specs.Facts.{became}
use Rattle.rows.specs.Bits.{bit}

-- a property of the numbers 0 to 16, held as a word
unfoldable pub row_of : ℕ → ℕ → Bool
row_of w b = ltb b 17 and bit w b

unfoldable pub square : List ℕ → ℕ → ℕ → Bool
square rows a b = ltb a 17 and row_of (get_or rows a 0) b

-- the first relation is the second, turned round
abbrev pub Turned : List ℕ → List ℕ → Type 0
Turned back rows = (a b : ℕ) → square back a b ≡ square rows b a

-- a property in which hi is replaced by lo
unfoldable pub renamed_row : ℕ → ℕ → (ℕ → Bool) → ℕ → Bool
renamed_row lo hi p b = any p (became lo hi b)

-- a relation in which, on the right or on the left, hi is replaced by lo
unfoldable pub columns : ℕ → ℕ → (ℕ → ℕ → Bool) → ℕ → ℕ → Bool
columns lo hi f a = renamed_row lo hi (f a)

unfoldable pub rows : ℕ → ℕ → (ℕ → ℕ → Bool) → ℕ → ℕ → Bool
rows lo hi f a b = renamed_row lo hi (λ x. f x b) a
