-- Samples of texts, worked by hand from the words of 02, R-7: what is refused and where, and what is read. The gate's data have many more.
use Rattle.std.specs.Prelude.{ℕ, ◌≡◌, List, [], ◌∷◌, ◌++◌, map, replicate}
use Rattle.logic.specs.Search.{flat_map}
use Rattle.logic.specs.Query.{decode}
use Rattle.formula.specs.Grammar.{E, R, Formula, literal, both, either}
use Rattle.formula.specs.Meaning.{present}
use Rattle.formula.specs.Reader.{Reading, done, read_text}
use Rattle.formula.specs.Call.{Input, Answer, refused, formula_call}

-- a query of one variable, with E1, E2 and R1 and no other literal
unfoldable pub given : List ℕ
given = 1 ∷ 0 ∷ 2 ∷ 1 ∷ 1 ∷ 1 ∷ 1 ∷ 1 ∷ 1 ∷ 1 ∷ 1 ∷ 1 ∷ 1 ∷ 0 ∷ 0 ∷ []

unfoldable pub input_of : List ℕ → Input
input_of text = record { order = 1 ∷ 2 ∷ 3 ∷ 4 ∷ 5 ∷ 6 ∷ 7 ∷ 8 ∷ []; query = given; text = text; room = 53 }

pub record Refusal : Type 0 where
  pub text : List ℕ
  pub answer : Answer

unfoldable pub refusal : List ℕ → ℕ → ℕ → Refusal
refusal text k p = record { text = text; answer = refused k p }

-- so many parentheses opened, and closed
unfoldable pub opens : ℕ → List ℕ
opens n = replicate n 40

unfoldable pub closes : ℕ → List ℕ
closes n = replicate n 41

-- E1, and behind it |E1 so many times: one conjunction more
unfoldable pub ors : ℕ → List ℕ
ors n = 69 ∷ 49 ∷ flat_map (λ (bar : ℕ). bar ∷ 69 ∷ 49 ∷ []) (replicate n 124)

unfoldable pub refusals : List Refusal
refusals =
    -- "the first byte that no text of the grammar could have there, or the length": `E1|`; blanks stand round literals and not in them: `E 1`
    refusal (69 ∷ 49 ∷ 124 ∷ []) 17 3
    ∷ refusal (69 ∷ 32 ∷ 49 ∷ []) 17 1
    -- "a place from 1, no leading zero": `E01`, and the bytes beside the digits, `E1/` and `E1:`
    ∷ refusal (69 ∷ 48 ∷ 49 ∷ []) 17 1
    ∷ refusal (69 ∷ 49 ∷ 47 ∷ []) 17 2
    ∷ refusal (69 ∷ 49 ∷ 58 ∷ []) 17 2
    -- "naming an absent literal (its letter)": `E1&B1`
    ∷ refusal (69 ∷ 49 ∷ 38 ∷ 66 ∷ 49 ∷ []) 17 3
    -- "18 too deep (the 33rd parenthesis open at once)"
    ∷ refusal (opens 33 ++ (69 ∷ 49 ∷ closes 33)) 18 32
    -- "17 on a tie": with 32 open, a parenthesis behind E1 is the 33rd and is one that no text of the grammar has there
    ∷ refusal (opens 32 ++ (69 ∷ 49 ∷ 40 ∷ [])) 17 34
    -- "17 text too long (place 512)", even where a fault stands before; "19 more than 64 conjunctions"
    ∷ refusal (replicate 513 41) 17 512
    ∷ refusal (ors 64) 19 0
    ∷ []

unfoldable pub refusal_computed : Refusal → Refusal
refusal_computed s = record { text = s.text; answer = (formula_call (input_of s.text)).answer }

pub record Read : Type 0 where
  pub text : List ℕ
  pub reading : Reading

unfoldable pub reads : List ℕ → Formula → Read
reads text f = record { text = text; reading = done f [] }

-- "`&` binding tighter, blanks free round literals, `&`, `|` and parentheses": `E1|E2&R1`, `(E1 | E2) & R1`; "to a depth of 32"
unfoldable pub readings : List Read
readings =
    reads (69 ∷ 49 ∷ 124 ∷ 69 ∷ 50 ∷ 38 ∷ 82 ∷ 49 ∷ []) (either (literal E 1) (both (literal E 2) (literal R 1)))
    ∷ reads (40 ∷ 69 ∷ 49 ∷ 32 ∷ 124 ∷ 32 ∷ 69 ∷ 50 ∷ 41 ∷ 32 ∷ 38 ∷ 32 ∷ 82 ∷ 49 ∷ []) (both (either (literal E 1) (literal E 2)) (literal R 1))
    ∷ reads (opens 32 ++ (69 ∷ 49 ∷ closes 32)) (literal E 1)
    ∷ []

unfoldable pub read_computed : Read → Read
read_computed s = record { text = s.text; reading = read_text (present (decode given)) 32 s.text }

pub record SamplesHold : Type 0 where
  pub refusals_hold : map refusal_computed refusals ≡ refusals
  pub readings_hold : map read_computed readings ≡ readings
