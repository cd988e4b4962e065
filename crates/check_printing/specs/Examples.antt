-- What checkderivation prints of samples, as one table and one statement: E4's derivation by order 4 first (02, R-1), as heapverdict prints it
-- and as bytes, and what can be wrong with it; and of checklinks, the same by link 2 (02, R-11).
use Rattle.std.specs.Prelude.{ℕ, ◌≡◌, List, [], ◌∷◌, ◌++◌, map}
use Rattle.text.specs.Text.{ascii}
use Rattle.check_printing.specs.CheckText.{checkderivation_text, checklinks_text}

pub record Print : Type 0 where
  pub input : List ℕ
  pub text : List ℕ

-- E4 of 01, behind its length
unfoldable pub example4 : List ℕ
example4 = 0 ∷ 17 ∷ 3 ∷ 0 ∷ 1 ∷ 0 ∷ 1 ∷ 0 ∷ 1 ∷ 3 ∷ 2 ∷ 1 ∷ 1 ∷ 3 ∷ 0 ∷ 2 ∷ 3 ∷ 0 ∷ 0 ∷ []

unfoldable pub prints : List Print
prints =
    record { input = example4 ++ ascii "unsat\n4 1 2 3\n10 1 3 0\n9 2 1 0\n9 3 2 0\n"; text = ascii "accepted\n" }
    ∷ record {
      input = example4 ++ (0 ∷ 4 ∷ 4 ∷ 1 ∷ 2 ∷ 3 ∷ 10 ∷ 1 ∷ 3 ∷ 0 ∷ 9 ∷ 2 ∷ 1 ∷ 0 ∷ 9 ∷ 3 ∷ 2 ∷ 0 ∷ []);
      text = ascii "accepted\n";
    }
    -- without its join line, and without its last
    ∷ record { input = example4 ++ ascii "unsat\n4 1 2 3\n9 2 1 0\n9 3 2 0\n"; text = ascii "wrong line 2\n" }
    ∷ record { input = example4 ++ ascii "unsat\n4 1 2 3\n10 1 3 0\n9 2 1 0\n"; text = ascii "wrong line 4\n" }
    ∷ record { input = example4 ++ ascii "unsat\n"; text = ascii "wrong line 1\n" }
    -- no text of lines: a number above 255, three numbers, five, a line that does not end, two blanks; what else heapverdict prints
    ∷ record { input = example4 ++ ascii "unsat\n4 1 2 256\n"; text = ascii "refused 20 at 0\n" }
    ∷ record { input = example4 ++ ascii "unsat\n4 1 2\n"; text = ascii "refused 20 at 0\n" }
    ∷ record { input = example4 ++ ascii "unsat\n4 1 2 3 0\n"; text = ascii "refused 20 at 0\n" }
    ∷ record { input = example4 ++ ascii "unsat\n4 1 2 3"; text = ascii "refused 20 at 0\n" }
    ∷ record { input = example4 ++ ascii "unsat\n4  1 2 3\n"; text = ascii "refused 20 at 0\n" }
    ∷ record { input = example4 ++ ascii "unsat\nrefused 12 at 0\n"; text = ascii "refused 20 at 0\n" }
    ∷ record { input = example4 ++ ascii "sat\n01 01 00 01 00 01 00\n"; text = ascii "refused 20 at 0\n" }
    ∷ record { input = example4 ++ []; text = ascii "refused 20 at 0\n" }
    -- the query's own faults come first; nothing at all is a query of no bytes
    ∷ record { input = 0 ∷ 1 ∷ 17 ∷ ascii "unsat\n4 1 2 256\n"; text = ascii "refused 3 at 0\n" }
    ∷ record { input = []; text = ascii "refused 2 at 0\n" }
    ∷ record { input = 0 ∷ []; text = ascii "refused 2 at 0\n" }
    -- a query that is cut
    ∷ record { input = 0 ∷ 9 ∷ 1 ∷ 0 ∷ []; text = ascii "refused 2 at 2\n" }
    ∷ []

-- the same query by link 2, behind its length
unfoldable pub linked4 : List ℕ
linked4 = 0 ∷ 22 ∷ 3 ∷ 0 ∷ 0 ∷ 2 ∷ 1 ∷ 0 ∷ 0 ∷ 1 ∷ 0 ∷ 1 ∷ 3 ∷ 2 ∷ 1 ∷ 2 ∷ 1 ∷ 3 ∷ 0 ∷ 2 ∷ 2 ∷ 3 ∷ 0 ∷ 0 ∷ []

unfoldable pub link_prints : List Print
link_prints =
    record { input = linked4 ++ ascii "unsat\n20 1 2 3\n10 1 3 0\n9 2 1 0\n9 3 2 0\n"; text = ascii "accepted\n" }
    -- the link left out of the rule line; a query in the form of 01
    ∷ record { input = linked4 ++ ascii "unsat\n4 1 2 3\n10 1 3 0\n9 2 1 0\n9 3 2 0\n"; text = ascii "wrong line 1\n" }
    ∷ record { input = example4 ++ ascii "unsat\n4 1 2 3\n10 1 3 0\n9 2 1 0\n9 3 2 0\n"; text = ascii "refused 2 at 17\n" }
    ∷ []

pub record PrintsHold : Type 0 where
  pub one_link_lem : map (λ (p : Print). checkderivation_text p.input) prints ≡ map (λ (p : Print). p.text) prints
  pub three_links : map (λ (p : Print). checklinks_text p.input) link_prints ≡ map (λ (p : Print). p.text) link_prints
