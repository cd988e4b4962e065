-- What heapverdict prints of examples of 01 and 02, as one table and one statement.
use Rattle.std.specs.Prelude.{ℕ, ◌≡◌, List, [], ◌∷◌, ◌++◌, map}
use Rattle.logic.specs.Examples.{in_order}
use Rattle.text.specs.Text.{ascii}
use Rattle.printing.specs.HeapverdictText.{heapverdict_text}

-- the input, and what is printed of it
pub record Print : Type 0 where
  pub input : List ℕ
  pub text : List ℕ

unfoldable pub prints : List Print
prints =
    -- E1
    record { input = in_order ++ (0 ∷ 0 ∷ 0 ∷ 0 ∷ 0 ∷ []); text = ascii "sat\n01 01 00 01 00 01 00\n" }
    -- E3
    ∷ record {
      input = in_order ++ (2 ∷ 0 ∷ 0 ∷ 1 ∷ 0 ∷ 1 ∷ 2 ∷ 2 ∷ 1 ∷ 1 ∷ 2 ∷ 1 ∷ 2 ∷ 1 ∷ 0 ∷ 0 ∷ []);
      text = ascii "sat\n02 02 01 02 01 02 02 00 00 01 00\n";
    }
    -- E4 with order 4 1 2 3 5 6 7 8, in full (02, R-1)
    ∷ record {
      input = 4 ∷ 1 ∷ 2 ∷ 3 ∷ 5 ∷ 6 ∷ 7 ∷ 8 ∷ 3 ∷ 0 ∷ 1 ∷ 0 ∷ 1 ∷ 0 ∷ 1 ∷ 3 ∷ 2 ∷ 1 ∷ 1 ∷ 3 ∷ 0 ∷ 2 ∷ 3 ∷ 0 ∷ 0 ∷ [];
      text = ascii "unsat\n4 1 2 3\n10 1 3 0\n9 2 1 0\n9 3 2 0\n";
    }
    -- 02, R-3: null in a live list. A variable in its place is given a heap, and nil is given none.
    ∷ record {
      input = 1 ∷ 2 ∷ 3 ∷ 8 ∷ 4 ∷ 5 ∷ 6 ∷ 7 ∷ 2 ∷ 0 ∷ 0 ∷ 1 ∷ 0 ∷ 1 ∷ 2 ∷ 2 ∷ 1 ∷ 1 ∷ 2 ∷ 1 ∷ 2 ∷ 1 ∷ 0 ∷ 0 ∷ [];
      text = ascii "sat\n02 02 01 02 01 02 02 00 00 01 00\n";
    }
    ∷ record {
      input = 1 ∷ 2 ∷ 3 ∷ 8 ∷ 4 ∷ 5 ∷ 6 ∷ 7 ∷ 2 ∷ 0 ∷ 255 ∷ 1 ∷ 0 ∷ 1 ∷ 2 ∷ 2 ∷ 1 ∷ 1 ∷ 2 ∷ 1 ∷ 2 ∷ 1 ∷ 0 ∷ 0 ∷ [];
      text = ascii "unsat\n1 1 0 0\n1 2 0 0\n5 2 1 1\n10 1 2 0\n9 2 1 0\n";
    }
    -- E7 as its rewriting, and as it was (02, R-13)
    ∷ record { input = in_order ++ (1 ∷ 0 ∷ 0 ∷ 0 ∷ 2 ∷ 1 ∷ 1 ∷ 1 ∷ 0 ∷ 1 ∷ 1 ∷ 0 ∷ []); text = ascii "unsat\n9 4 2 1\n" }
    ∷ record { input = in_order ++ (0 ∷ 0 ∷ 0 ∷ 0 ∷ 2 ∷ 1 ∷ 1 ∷ 0 ∷ 1 ∷ []); text = ascii "refused 26 at 4\n" }
    -- E10: "Count 17 first"; "Empty query"; "Order 1 1 3 4 5 6 7 8"
    ∷ record { input = in_order ++ (17 ∷ []); text = ascii "refused 3 at 0\n" }
    ∷ record { input = in_order; text = ascii "refused 2 at 0\n" }
    ∷ record { input = 1 ∷ 1 ∷ 3 ∷ 4 ∷ 5 ∷ 6 ∷ 7 ∷ 8 ∷ 0 ∷ 0 ∷ 0 ∷ 0 ∷ 0 ∷ []; text = ascii "refused 1 at 0\n" }
    -- "Fewer than eight bytes are a bad order list."
    ∷ record { input = 1 ∷ 2 ∷ 3 ∷ 4 ∷ 5 ∷ 6 ∷ 7 ∷ []; text = ascii "refused 1 at 0\n" }
    ∷ record { input = []; text = ascii "refused 1 at 0\n" }
    -- bytes after section 5
    ∷ record { input = in_order ++ (0 ∷ 0 ∷ 0 ∷ 0 ∷ 0 ∷ 0 ∷ []); text = ascii "refused 4 at 5\n" }
    ∷ []

abbrev pub PrintsHold : Type 0
PrintsHold = map (λ (p : Print). heapverdict_text p.input) prints ≡ map (λ (p : Print). p.text) prints
