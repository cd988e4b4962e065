-- Bytes and numbers as text, and what a writer of them leaves in a lent buffer. A character is its ASCII code.
use Rattle.std.specs.Prelude.{ℕ, zero, suc, ◌+◌, ◌-◌, ◌*◌, ◌/◌, ◌%◌, ◌≡◌, Bool, cond, List, [], ◌∷◌, ◌++◌, length, ltb, leb}
use Prim.Native.Char.{code}
use Prim.Native.String.{String}
use Prim.Native.String as string
use Rattle.std.proofs.lemmas.List.Edits.{sets}
use Rattle.logic.specs.Search.{◌and◌, ◌or◌}

-- The bytes of a word.
abbrev pub ascii : String → List ℕ
ascii string.[] = []
ascii (string.◌∷◌ c cs) = code c ∷ ascii cs

-- The buffer after these bytes are stored from a place on, each where it has room: past the end nothing is stored.
unfoldable pub write_at : List ℕ → ℕ → List ℕ → List ℕ
write_at buffer at bytes = sets buffer at bytes

-- What every writer does: it stores its bytes from a place on and answers the place behind them. The place counts on where there is no
-- room, so that a caller sees from the last one how much room the whole text takes.
pub record Writes (before : List ℕ) (at : ℕ) (bytes after : List ℕ) (r : ℕ) : Type 0 where
  pub leaves : after ≡ write_at before at bytes
  pub ends : r ≡ at + length bytes

-- A number in decimal digits, with no leading zero. Each digit is a step, and a number has fewer digits than itself plus 1.
unfoldable pub decimal_within : ℕ → ℕ → List ℕ
decimal_within zero k = []
decimal_within (suc steps) k =
    let front : List ℕ = decimal_within steps (k / 10) in
    cond (ltb k 10) ((48 + k) ∷ []) (front ++ ((48 + k % 10) ∷ []))

unfoldable pub decimal : ℕ → List ℕ
decimal k = decimal_within (suc k) k

-- A byte in two lower-case hex digits, the high one first.
unfoldable pub hex_digit : ℕ → ℕ
hex_digit d = cond (ltb d 10) (48 + d) (87 + d)

unfoldable pub hex_byte : ℕ → List ℕ
hex_byte k = hex_digit (k / 16) ∷ hex_digit (k % 16) ∷ []

-- Reading: the number that decimal digits show behind n, and which characters are digits.
unfoldable pub number_from : ℕ → List ℕ → ℕ
number_from n [] = n
number_from n (c ∷ cs) = number_from (10 * n + (c - 48)) cs

unfoldable pub number_in : List ℕ → ℕ
number_in text = number_from 0 text

unfoldable pub is_digit : ℕ → Bool
is_digit c = leb 48 c and leb c 57

-- the same of hex digits
unfoldable pub hex_value : ℕ → ℕ
hex_value c = cond (is_digit c) (c - 48) (c - 87)

unfoldable pub hex_from : ℕ → List ℕ → ℕ
hex_from n [] = n
hex_from n (c ∷ cs) = hex_from (16 * n + hex_value c) cs

unfoldable pub hex_in : List ℕ → ℕ
hex_in text = hex_from 0 text

unfoldable pub is_hex_digit : ℕ → Bool
is_hex_digit c = is_digit c or (leb 97 c and leb c 102)
