-- A routine and its lines, worked by hand.
use Rattle.std.specs.Prelude.{ℕ, ◌≡◌, [], ◌∷◌, ◌++◌}
use Prim.Native.String.{String}
use Rattle.text.specs.Text.{ascii}
use Rattle.routine_logic.specs.Syntax.{null, variable, Term, always, equal, unequal, Place, end, assign_link, assert, cover, loop, Routine}
use Rattle.routine_text.specs.Builder.{Word, limit_fault}
use Rattle.routine_text.specs.Reading.{Reading, read, faulty}
use Rattle.routine_lines.specs.Lines.{checks_text}

abbrev pub word : String → Word
word s = record { place = 0; line = 1; bytes = ascii s }

abbrev pub place : ℕ → ℕ → Place
place number line = record { number = number; line = line }

abbrev pub p : Term
p = record { base = variable 0; links = [] }

abbrev pub q_prev : Term
q_prev = record { base = variable 1; links = 2 ∷ [] }

-- 1  links next, prev;
-- 2  routine f(p, q)
-- 3    ensures p == NULL
-- 4  {
-- 5    while (p != q->prev)
-- 6      invariant true
-- 7    { q->prev->next = p; }
-- 8    assert true; cover true;
-- 9  }
unfoldable pub looping : Routine
looping =
    record {
      line = 2;
      requires = [];
      ensures = record { line = 3; formula = equal p (record { base = null; links = [] }) } ∷ [];
      body =
          loop (place 1 5) (unequal p q_prev) (record { line = 6; formula = always } ∷ []) (assign_link (place 2 7) q_prev 1 p end)
          (assert (place 3 8) always (cover (place 4 8) always end));
    }

unfoldable pub sample_text : Reading
sample_text =
    read (record { links = word "next" ∷ word "prev" ∷ []; flags = []; routines = record { name = word "f"; variables = word "p" ∷ word "q" ∷ []; routine = looping } ∷ [] })

pub record SamplesHold : Type 0 where
  pub lines_hold : checks_text sample_text
      ≡ ascii "routine f\n3 ensures: undecided steps\n5 null q: undecided steps\n6 invariant entry: undecided steps\n"
      ++ (ascii "6 invariant kept: undecided steps\n7 null q: undecided steps\n7 null q->prev: undecided steps\n"
      ++ ascii "8 assert: undecided steps\n8 cover: undecided steps\n8 checks: 0 hold, 0 can fail, 8 undecided\n")
  pub fault_holds : checks_text (faulty 12 103 limit_fault) ≡ ascii "fault 12:103 limit\n"
