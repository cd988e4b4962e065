-- The words and signs of a routine's text (03, "The text" and "Answers"). A text is a list of bytes; a place is the number of bytes before it.
use Rattle.std.specs.Prelude.{ℕ, zero, suc, ◌+◌, ◌*◌, ◌-◌, Bool, true, false, not, cond, List, [], ◌∷◌, ◌++◌, length, take, drop, eqb, ltb, leb}
use Rattle.logic.specs.Search.{◌and◌, ◌or◌}
use Rattle.text.specs.Text.{ascii, is_digit}
use Rattle.routine_tokens.specs.declared.Token.{Token}

-- "Blanks, tabs, carriage returns and line feeds separate"
unfoldable pub is_blank : ℕ → Bool
is_blank b = eqb b 32 or eqb b 9 or eqb b 13 or eqb b 10

-- "words (letters, digits and `_`, as long as they go)"
unfoldable pub is_letter : ℕ → Bool
is_letter b = (leb 97 b and leb b 122) or (leb 65 b and leb b 90) or eqb b 95

unfoldable pub is_word_byte : ℕ → Bool
is_word_byte b = is_letter b or is_digit b

-- how many bytes of a word stand in front
unfoldable pub word_length : List ℕ → ℕ
word_length [] = 0
word_length (b ∷ bs) = cond (is_word_byte b) (suc (word_length bs)) 0

-- "`//` begins a comment to the line's end"
unfoldable pub opens_comment : List ℕ → Bool
opens_comment [] = false
opens_comment (b ∷ []) = false
opens_comment (b ∷ c ∷ bs) = eqb b 47 and eqb c 47

-- The first of these bytes separates, outside a comment or within one: "a byte above 127 is a fault even in a comment".
unfoldable pub separates : Bool → List ℕ → Bool
separates comment [] = false
separates true (b ∷ bs) = leb b 127
separates false (b ∷ bs) = is_blank b or opens_comment (b ∷ bs)

-- Behind a byte that separates there is a comment: it goes on to the line's end, or has begun.
unfoldable pub in_comment : Bool → ℕ → Bool
in_comment true b = not (eqb b 10)
in_comment false b = eqb b 47

-- how many bytes in front separate
unfoldable pub separators : Bool → List ℕ → ℕ
separators comment [] = 0
separators comment (b ∷ bs) = cond (separates comment (b ∷ bs)) (suc (separators (in_comment comment b) bs)) 0

-- The reserved words and the signs of the grammar, ten bytes each; the signs in an order in which a longer one stands before those that begin it.
abbrev pub word_table : List ℕ
word_table =
    ascii "links     flags     routine   requires  ensures   var       havoc     assume    assert    cover     "
    ++ ascii "if        else      while     invariant return    break     true      false     forall    reaches   by        between   NULL      "

abbrev pub sign_table : List ℕ
sign_table =
    ascii "->        =>        <=>       ==        !=        &&        ||        (         )         {         }         ;         :         ,         =         !         "

-- The row in front, which a blank ends, is what these bytes begin with, or all of them.
unfoldable pub fits : Bool → List ℕ → List ℕ → Bool
fits whole bytes [] = false
fits whole [] (r ∷ row) = eqb r 32
fits whole (b ∷ bytes) (r ∷ row) = cond (eqb r 32) (not whole) (eqb b r and fits whole bytes row)

-- the number of the first of so many rows that fits, or how many there are
unfoldable pub row_of : ℕ → Bool → List ℕ → List ℕ → ℕ
row_of zero whole bytes table = 0
row_of (suc k) whole bytes table = cond (fits whole bytes table) 0 (suc (row_of k whole bytes (drop 10 table)))

-- Kinds of tokens: 0 the end of the text; 1 a byte that begins no word and no sign; 2 a name; 3 the word `0`; 4 the word `1`; 5 another word that is
-- no name; from 6 on the reserved words; from 29 on the signs. "Names are letters, digits and `_`, no digit first, and none of the words below."
unfoldable pub reserved_kind : ℕ → ℕ
reserved_kind row = cond (ltb row 23) (6 + row) 2

unfoldable pub digit_kind : List ℕ → ℕ
digit_kind [] = 5
digit_kind (b ∷ []) = cond (eqb b 48) 3 (cond (eqb b 49) 4 5)
digit_kind (b ∷ c ∷ bs) = 5

unfoldable pub word_kind : List ℕ → ℕ
word_kind [] = 2
word_kind (b ∷ bs) = cond (is_digit b) (digit_kind (b ∷ bs)) (reserved_kind (row_of 23 true (b ∷ bs) word_table))

-- how many bytes the row in front has
unfoldable pub row_length : List ℕ → ℕ
row_length [] = 0
row_length (r ∷ row) = cond (eqb r 32) 0 (suc (row_length row))

-- a token of this kind from a place on, so many bytes long
unfoldable pub token_of : ℕ → ℕ → ℕ → Token
token_of place size kind = record { kind = kind; start = place; end = place + size }

unfoldable pub word_of : ℕ → ℕ → List ℕ → Token
word_of place size bytes = token_of place size (word_kind (take size bytes))

unfoldable pub sign_of : ℕ → ℕ → List ℕ → Token
sign_of place row table = cond (ltb row 16) (token_of place (row_length (drop (10 * row) table)) (29 + row)) (token_of place 1 1)

-- The token that these bytes, which stand from a place on, begin with. "the end of the text counts as a sign"
unfoldable pub token_at : ℕ → List ℕ → Token
token_at place [] = token_of place 0 0
token_at place (b ∷ bs) =
    cond (is_word_byte b) (word_of place (word_length (b ∷ bs)) (b ∷ bs)) (sign_of place (row_of 16 false (b ∷ bs) sign_table) sign_table)

-- the same behind so many separators
unfoldable pub token_behind : ℕ → ℕ → List ℕ → Token
token_behind skipped place bytes = token_at (place + skipped) (drop skipped bytes)

-- the first token of these bytes, which stand from a place on; of a text from a place on
unfoldable pub token_in : ℕ → List ℕ → Token
token_in place bytes = token_behind (separators false bytes) place bytes

unfoldable pub token_from : List ℕ → ℕ → Token
token_from text place = token_in place (drop place text)

-- the tokens of these bytes in order, up to the first that is the end or begins nothing; with a count of tokens that is enough for the bytes
unfoldable pub tokens_behind : (ℕ → List ℕ → List Token) → ℕ → List ℕ → Token → List Token
tokens_behind more place bytes t = cond (ltb t.kind 2) (t ∷ []) (t ∷ more t.end (drop (t.end - place) bytes))

unfoldable pub tokens_in : ℕ → ℕ → List ℕ → List Token
tokens_in zero place bytes = []
tokens_in (suc k) place bytes = tokens_behind (tokens_in k) place bytes (token_in place bytes)

unfoldable pub tokens : List ℕ → List Token
tokens text = tokens_in (suc (length text)) 0 text

-- "line and column from 1": one more than the line feeds before a place, and than the bytes between it and the last of these
unfoldable pub line_behind : ℕ → ℕ → ℕ
line_behind line b = cond (eqb b 10) (line + 1) line

unfoldable pub column_behind : ℕ → ℕ → ℕ
column_behind column b = cond (eqb b 10) 1 (column + 1)

unfoldable pub line_from : ℕ → ℕ → List ℕ → ℕ
line_from line zero text = line
line_from line (suc place) [] = line
line_from line (suc place) (b ∷ bs) = line_from (line_behind line b) place bs

unfoldable pub column_from : ℕ → ℕ → List ℕ → ℕ
column_from column zero text = column
column_from column (suc place) [] = column
column_from column (suc place) (b ∷ bs) = column_from (column_behind column b) place bs

unfoldable pub line_of : List ℕ → ℕ → ℕ
line_of text place = line_from 1 place text

unfoldable pub column_of : List ℕ → ℕ → ℕ
column_of text place = column_from 1 place text
