-- What joinqueries prints of samples: the two teams of README, refusals, and the bounds.
use Rattle.std.specs.Prelude.{ℕ, ◌≡◌, List, [], ◌∷◌, ◌++◌, map}
use Rattle.logic.specs.EdgeExamples.{times}
use Rattle.text.specs.Text.{ascii}
use Rattle.join_printing.specs.JoinText.{joinqueries_text}

pub record Print : Type 0 where
  pub input : List ℕ
  pub text : List ℕ

-- term 1 the head, term 2 nil, 1 = 2; and term 1 the argument, term 2 its link, not 2 = 1
unfoldable pub teams : List ℕ
teams =
    0 ∷ 10 ∷ 2 ∷ 0 ∷ 255 ∷ 1 ∷ 1 ∷ 1 ∷ 2 ∷ 0 ∷ 0 ∷ 0
    ∷ 0 ∷ 10 ∷ 2 ∷ 0 ∷ 1 ∷ 1 ∷ 0 ∷ 2 ∷ 1 ∷ 0 ∷ 0 ∷ 0 ∷ []

-- 16 variables, and 60 literals in each section
unfoldable pub longest : List ℕ
longest =
    16
    ∷ (times 16 (0 ∷ []) ++ (60 ∷ (times 60 (1 ∷ 1 ∷ 2 ∷ []) ++ (60 ∷ (times 60 (1 ∷ 1 ∷ 2 ∷ []) ++ (60 ∷ (times 60 (0 ∷ 8 ∷ 16 ∷ []) ++ (0 ∷ []))))))))

unfoldable pub prints : List Print
prints =
    record { input = teams ++ (1 ∷ 1 ∷ 1 ∷ []); text = ascii "04 00 ff 00 03 03 01 01 02 00 04 03 01 01 03 00 00 00\n" }
    ∷ record { input = teams ++ ascii "9 2 2 0\n"; text = ascii "second query at 4: 00 02 01\n" }
    ∷ record { input = teams ++ ascii "9 2 1 0\n"; text = ascii "first query at 4: 01 01 02\n" }
    -- the equality of the pair is no literal of either; a line that is cut
    ∷ record { input = teams ++ ascii "9 2 3 0\n"; text = ascii "refused 25 at 0\n" }
    ∷ record { input = teams ++ ascii "9 2 2\n"; text = ascii "refused 25 at 0\n" }
    -- a pair with a term that the second lacks; none
    ∷ record { input = teams ++ (1 ∷ 1 ∷ 3 ∷ []); text = ascii "refused 23 at 0\n" }
    ∷ record { input = teams; text = ascii "refused 23 at 0\n" }
    -- which query a refusal is about
    ∷ record { input = 0 ∷ 1 ∷ 17 ∷ []; text = ascii "refused 3 at 0 of the first query\n" }
    ∷ record { input = 0 ∷ 5 ∷ 0 ∷ 0 ∷ 0 ∷ 0 ∷ 0 ∷ 0 ∷ 1 ∷ 17 ∷ ascii "9 2 2 0\n"; text = ascii "refused 3 at 0 of the second query\n" }
    ∷ record { input = 0 ∷ 1 ∷ 17 ∷ 0 ∷ 1 ∷ 17 ∷ ascii "9 2 2 0\n"; text = ascii "refused 3 at 0 of the first query\n" }
    ∷ record { input = 0 ∷ 5 ∷ 0 ∷ 0 ∷ 0 ∷ 0 ∷ 0 ∷ 0 ∷ 1 ∷ 17 ∷ 0 ∷ []; text = ascii "refused 3 at 0 of the second query\n" }
    -- "26 a boolean count above 0 (that count's place)" (02, R-13)
    ∷ record { input = 0 ∷ 7 ∷ 0 ∷ 0 ∷ 0 ∷ 0 ∷ 1 ∷ 1 ∷ 1 ∷ []; text = ascii "refused 26 at 4 of the first query\n" }
    -- a text of 64 bytes is read as lines, of which the first counts; one more is none
    ∷ record { input = teams ++ times 8 (ascii "9 2 2 0\n"); text = ascii "second query at 4: 00 02 01\n" }
    ∷ record { input = teams ++ (times 7 (ascii "9 2 2 0\n") ++ ascii "9 2 2 10\n"); text = ascii "refused 25 at 0\n" }
    -- the longest query, of 561 bytes: its length has the high byte first
    ∷ record {
      input = 2 ∷ 49 ∷ (longest ++ (0 ∷ 5 ∷ 0 ∷ 0 ∷ 0 ∷ 0 ∷ 0 ∷ 0 ∷ []));
      text =
          ascii "10" ++ (times 16 (ascii " 00") ++ (ascii " 3c" ++ (times 60 (ascii " 01 01 02") ++ (ascii " 3c" ++ (times 60 (ascii " 01 01 02") ++ (ascii " 3c" ++ (times 60 (ascii " 00 08 10") ++ ascii " 00\n")))))));
    }
    ∷ []

abbrev pub PrintsHold : Type 0
PrintsHold = map (λ (p : Print). joinqueries_text p.input) prints ≡ map (λ (p : Print). p.text) prints
