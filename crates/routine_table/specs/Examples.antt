-- A table worked by hand, and what it says.
use Rattle.std.specs.Prelude.{ℕ, zero, suc, ◌≡◌, true, List, [], ◌∷◌, ◌++◌}
use Rattle.routine_logic.specs.Syntax.{Base, null, variable, bound, Term, always, never, equal, unequal, reaches, between, flag, negation, both, either, implies, same, forall, Place, end, assign, assign_link, assign_flag, havoc, assume, branch, loop, leave, break_out, Routine}
use Rattle.routine_table.specs.Cells.{Table}
use Rattle.routine_table.specs.Formulas.{formula_of}
use Rattle.routine_table.specs.Routines.{routine_of}

-- some numbers, and zeros up to so many
unfoldable pub filled : ℕ → List ℕ → List ℕ
filled zero xs = xs
filled (suc n) [] = 0 ∷ filled n []
filled (suc n) (x ∷ xs) = x ∷ filled n xs

abbrev pub cells : ℕ → ℕ → ℕ → ℕ → ℕ → ℕ → List ℕ
cells a b c d e f = a ∷ b ∷ c ∷ d ∷ e ∷ f ∷ 0 ∷ 0 ∷ []

-- The text
--
-- 1  routine walk(p, q)
-- 2    requires forall v: p reaches v => v->mark
-- 3    ensures p == NULL
-- 4  {
-- 5    while (p != NULL && !(p->next == q))
-- 6      invariant between(p, q, NULL)
-- 7    { if (p->mark) { break; } else { p->next->prev = q; } p = p->next; }
-- 8    p->mark = 1; havoc q; assume true <=> false || true; return;
-- 9  }
--
-- whose links are next and prev.
-- Terms: at 0 NULL, at 2 `p`, at 4 `q`, at 6 `p->next`, at 9 `v`.
unfoldable pub terms : List ℕ
terms = 0 ∷ 0 ∷ 1 ∷ 0 ∷ 2 ∷ 0 ∷ 1 ∷ 1 ∷ 0 ∷ 64 ∷ 0 ∷ []

unfoldable pub statements : List ℕ
statements =
    cells 11 5 8 2 1 5
    ++ cells 10 7 10 3 0 4
    ++ cells 9 7 0 0 0 3
    ++ cells 2 7 2 6 4 4
    ++ cells 1 7 0 6 0 5
    ++ cells 3 8 1 2 1 6
    ++ cells 4 8 1 0 0 7
    ++ cells 5 8 15 0 0 8
    ++ cells 8 8 0 0 0 9

unfoldable pub clauses : List ℕ
clauses = 1 ∷ 2 ∷ 3 ∷ 0 ∷ 2 ∷ 3 ∷ 4 ∷ 0 ∷ 3 ∷ 6 ∷ 9 ∷ 0 ∷ []

unfoldable pub routines : List ℕ
routines = 1 ∷ 8 ∷ 0 ∷ 9 ∷ 0 ∷ 2 ∷ 0 ∷ 2 ∷ []

unfoldable pub parts : List ℕ
parts =
    cells 4 2 9 0 1 0
    ++ cells 6 9 0 0 1 0
    ++ cells 10 0 1 0 0 0
    ++ cells 12 2 0 0 0 0
    ++ cells 2 2 0 0 0 0
    ++ cells 3 2 0 0 0 0
    ++ cells 2 6 4 0 0 0
    ++ cells 7 6 0 0 0 0
    ++ cells 8 5 7 0 0 0
    ++ cells 5 2 4 0 1 0
    ++ cells 6 2 0 0 1 0
    ++ cells 1 0 0 0 0 0
    ++ cells 0 0 0 0 0 0
    ++ cells 1 0 0 0 0 0
    ++ cells 9 12 13 0 0 0
    ++ cells 11 11 14 0 0 0

unfoldable pub walk_table : Table
walk_table =
    filled 10240 terms ++ filled 2048 statements ++ filled 4096 clauses ++ filled 6144 routines ++ filled 4096 [] ++ filled 32 (2 ∷ 1 ∷ 1 ∷ []) ++ parts

unfoldable pub here : Base → Term
here b = record { base = b; links = [] }

unfoldable pub place : ℕ → ℕ → Place
place number line = record { number = number; line = line }

unfoldable pub p_next : Term
p_next = record { base = variable 0; links = 1 ∷ [] }

unfoldable pub walk : Routine
walk =
    record {
      line = 1;
      requires = record { line = 2; formula = forall (implies (reaches 1 (here (variable 0)) (here (bound 0))) (flag 1 (here (bound 0)))) } ∷ [];
      ensures = record { line = 3; formula = equal (here (variable 0)) (here null) } ∷ [];
      body =
          loop (place 1 5) (both (unequal (here (variable 0)) (here null)) (negation (equal p_next (here (variable 1)))))
          (record { line = 6; formula = between 1 (here (variable 0)) (here (variable 1)) (here null) } ∷ [])
          (branch (place 2 7) (flag 1 (here (variable 0)))
          (break_out (place 3 7) end)
          (assign_link (place 4 7) p_next 2 (here (variable 1)) end)
          (assign (place 5 7) 0 p_next end))
          (assign_flag (place 6 8) (here (variable 0)) 1 true
          (havoc (place 7 8) 1 (assume (place 8 8) (same always (either never always)) (leave (place 9 8) end))));
    }

pub record ExamplesHold : Type 0 where
  -- every kind of statement but `assert` and `cover`, and every kind of part
  pub walk_read : routine_of walk_table 0 ≡ walk
  -- a side that stands behind its part is `false`, and so is a part that no table has
  pub side_behind : formula_of (filled 26656 [] ++ cells 7 1 0 0 0 0 ++ cells 1 0 0 0 0 0) 0 ≡ negation never
  pub no_part : formula_of walk_table 3072 ≡ never
