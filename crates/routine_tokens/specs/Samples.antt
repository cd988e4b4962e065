-- Samples of tokens, worked by hand from the words of 03; the bytes that no character shows are numbers.
use Rattle.std.specs.Prelude.{ℕ, ◌≡◌, List, [], ◌∷◌, ◌++◌, map}
use Rattle.logic.specs.Search.{from}
use Rattle.text.specs.Text.{ascii}
use Rattle.routine_tokens.specs.declared.Token.{Token}
use Rattle.routine_tokens.specs.Tokens.{tokens, line_of, column_of}

-- a text and the kinds of its tokens
pub record Sample : Type 0 where
  pub text : List ℕ
  pub kinds : List ℕ

unfoldable pub sample : List ℕ → List ℕ → Sample
sample text kinds = record { text = text; kinds = kinds }

unfoldable pub kinds_of : List Token → List ℕ
kinds_of ts = map (λ t. t.kind) ts

unfoldable pub samples : List Sample
samples =
    -- each reserved word; each sign, with nothing between them: "the signs of the grammar, the longest first"
    sample
    (ascii "links flags routine requires ensures var havoc assume assert cover if else "
    ++ ascii "while invariant return break true false forall reaches by between NULL") (from 23 6 ++ (0 ∷ []))
    ∷ sample (ascii "->=><=>==!=&&||(){};:,=!") (from 16 29 ++ (0 ∷ []))
    ∷ sample (ascii "===>!==<=>=") (32 ∷ 30 ∷ 33 ∷ 43 ∷ 31 ∷ 43 ∷ 0 ∷ [])
    -- "letters, digits and `_`, no digit first, and none of the words": names; `0` and `1`; words that are no names
    ∷ sample (ascii "linksx If null _a z9 by1") (2 ∷ 2 ∷ 2 ∷ 2 ∷ 2 ∷ 2 ∷ 0 ∷ [])
    ∷ sample (ascii "0 1 7 01 0x 1_") (3 ∷ 4 ∷ 5 ∷ 5 ∷ 5 ∷ 5 ∷ 0 ∷ [])
    -- "at a byte that begins none": signs that are not whole, a `/` alone, a byte above 127
    ∷ sample (ascii "p<=q") (2 ∷ 1 ∷ [])
    ∷ sample (ascii "a&b") (2 ∷ 1 ∷ [])
    ∷ sample (ascii "a/b") (2 ∷ 1 ∷ [])
    ∷ sample (97 ∷ 47 ∷ []) (2 ∷ 1 ∷ [])
    ∷ sample (97 ∷ 128 ∷ []) (2 ∷ 1 ∷ [])
    -- "Blanks, tabs, carriage returns and line feeds separate": and no other byte; "`//` begins a comment to the line's end"
    ∷ sample (97 ∷ 32 ∷ 9 ∷ 13 ∷ 10 ∷ 98 ∷ 11 ∷ []) (2 ∷ 2 ∷ 1 ∷ [])
    ∷ sample (ascii "a//b" ++ (13 ∷ 99 ∷ 10 ∷ 100 ∷ [])) (2 ∷ 2 ∷ 0 ∷ [])
    ∷ sample (ascii "a//") (2 ∷ 0 ∷ [])
    -- "a byte above 127 is a fault even in a comment"
    ∷ sample (ascii "a//b" ++ (127 ∷ 128 ∷ [])) (2 ∷ 1 ∷ [])
    ∷ []

unfoldable pub computed : Sample → Sample
computed s = record { text = s.text; kinds = kinds_of (tokens s.text) }

unfoldable pub placed : ℕ → ℕ → ℕ → Token
placed kind start end = record { kind = kind; start = start; end = end }

-- `p ->next//` and `x` on the next line: the place of x, its line and its column
unfoldable pub two_lines : List ℕ
two_lines = ascii "p ->next//" ++ (10 ∷ 32 ∷ 120 ∷ [])

pub record SamplesHold : Type 0 where
  pub kinds_hold : map computed samples ≡ samples
  pub places_hold : tokens two_lines ≡ placed 2 0 1 ∷ placed 29 2 4 ∷ placed 2 4 8 ∷ placed 2 12 13 ∷ placed 0 13 13 ∷ []
  pub line_holds : line_of two_lines 12 ≡ 2
  pub column_holds : column_of two_lines 12 ≡ 2
  pub first_line_lem : line_of two_lines 10 ≡ 1
  pub first_column : column_of two_lines 10 ≡ 11
