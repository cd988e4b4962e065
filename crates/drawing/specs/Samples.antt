-- Reports and what the call leaves of them: the example of 02 (R-2), and a sample of the vectors. Each outcome is written out.
use Rattle.std.specs.Prelude.{ℕ, ◌≡◌, List, [], ◌∷◌, ◌++◌, map, length, replicate}
use Rattle.text.specs.Text.{ascii}
use Rattle.drawing.specs.Call.{Outcome, written, refused, dot_call}

-- a report, how many bytes are lent, and what the call answers and leaves
pub record Sample : Type 0 where
  pub report : List ℕ
  pub room : ℕ
  pub outcome : Outcome

-- a text and so many zeros past it
abbrev pub draws : List ℕ → ℕ → List ℕ → ℕ → Sample
draws report room text zeros = record { report = report; room = room; outcome = record { answer = written (length text); lent = text ++ replicate zeros 0 } }

-- a refusal's number, the place 0, and zeros
abbrev pub refuses : List ℕ → ℕ → ℕ → Sample
refuses report room k = record { report = report; room = room; outcome = record { answer = refused k 0; lent = replicate room 0 } }

unfoldable pub samples : List Sample
samples =
    -- E2, "five lines, each with a newline"
    draws (1 ∷ 1 ∷ 1 ∷ 1 ∷ 1 ∷ 0 ∷ 1 ∷ 0 ∷ []) 49
    (ascii "digraph heap {\n// 0\n1 [label=\"1/0\"];\n1 -> 1;\n}\n") 2
    -- nodes before arrows, both ascending; terms of one node ascending, blanks between
    ∷ draws (4 ∷ 1 ∷ 1 ∷ 2 ∷ 4 ∷ 10 ∷ 1 ∷ 1 ∷ 1 ∷ 2 ∷ 1 ∷ 1 ∷ 1 ∷ 3 ∷ 4 ∷ 4 ∷ 4 ∷ 0 ∷ 1 ∷ 0 ∷ 0 ∷ 1 ∷ 0 ∷ []) 137
    (ascii "digraph heap {\n// 0\n1 [label=\"1 2 3 5 6 7/0\"];\n2 [label=\"4/1\"];\n3 [label=\"8/0\"];\n4 [label=\"9 10/0\"];\n1 -> 1;\n2 -> 1;\n3 -> 2;\n4 -> 4;\n}\n") 2
    -- a text that just fits; no term names the node
    ∷ draws (1 ∷ 1 ∷ 0 ∷ 1 ∷ 0 ∷ 1 ∷ 1 ∷ []) 46
    (ascii "digraph heap {\n// 1\n1 [label=\"/0\"];\n1 -> 1;\n}\n") 0
    -- a byte too short; the zeros behind a report are not part of it
    ∷ refuses (1 ∷ 1 ∷ 0 ∷ 1 ∷ 0 ∷ 1 ∷ 0 ∷ replicate 46 0) 45 14
    -- a byte past the report, and no room either: 13 is met first
    ∷ refuses (1 ∷ 1 ∷ 0 ∷ 1 ∷ 0 ∷ 1 ∷ 0 ∷ 2 ∷ 2 ∷ 0 ∷ []) 8 13
    ∷ []

-- what the definitions give for a sample
unfoldable pub computed : Sample → Sample
computed s = record { report = s.report; room = s.room; outcome = dot_call s.report s.room }

abbrev pub SamplesHold : Type 0
SamplesHold = map computed samples ≡ samples
