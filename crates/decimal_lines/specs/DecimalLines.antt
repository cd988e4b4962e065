-- The text of a derivation's lines, read number by number.
use Rattle.std.specs.Prelude.{ℕ, ◌+◌, ◌-◌, ◌*◌, Bool, true, false, not, cond, List, [], ◌∷◌, ◌++◌, eqb, ltb}
use Rattle.std.proofs.Math.Option.{Option, none, some, Option-elim}
use Rattle.logic.specs.Search.{◌and◌, keep}
use Rattle.text.specs.Text.{is_digit}

-- the bytes begin with a word
unfoldable pub begins : List ℕ → List ℕ → Bool
begins [] bytes = true
begins (w ∷ ws) [] = false
begins (w ∷ ws) (b ∷ bytes) = eqb b w and begins ws bytes

-- "each derivation line as four decimal numbers separated by blanks" (01): `place` numbers of a line are read, and of the next one some
-- digits, if it is begun. A blank ends it, and a newline ends the fourth.
unfoldable pub ends_number : ℕ → Bool → ℕ → Bool
ends_number place begun c = begun and eqb c (cond (ltb place 3) 32 10)

unfoldable pub next_place : ℕ → ℕ
next_place place = cond (ltb place 3) (place + 1) 0

unfoldable pub is_between : ℕ → Bool → Bool
is_between place begun = not begun and eqb place 0

-- these numbers, and then those
unfoldable pub prepend : List ℕ → Option (List ℕ) → Option (List ℕ)
prepend ns o = Option-elim o none (λ ms. some (ns ++ ms))

-- The numbers of a text of such lines, from a place in a line on, where the digits read so far show `value`. No number is above 255.
unfoldable pub numbers_from : ℕ → ℕ → Bool → List ℕ → Option (List ℕ)
numbers_from place value begun [] = keep (is_between place begun) []
numbers_from place value begun (c ∷ cs) =
    let shown : ℕ = 10 * value + (c - 48) in
    let digit : Option (List ℕ) = cond (ltb 255 shown) none (numbers_from place shown true cs) in
    let ended : Option (List ℕ) = prepend (value ∷ []) (numbers_from (next_place place) 0 false cs) in
    cond (is_digit c) digit (cond (ends_number place begun c) ended none)

-- how many lines end
unfoldable pub newline_in : ℕ → ℕ
newline_in c = cond (eqb c 10) 1 0

unfoldable pub newlines : List ℕ → ℕ
newlines [] = 0
newlines (c ∷ cs) = newline_in c + newlines cs
