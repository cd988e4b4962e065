-- The statements, clauses and routines of a table (03, "routine", "statement", "block").
use Rattle.std.specs.Prelude.{ℕ, zero, suc, ◌-◌, Bool, cond, List, [], ◌∷◌, eqb, leb, ltb}
use Rattle.logic.specs.Search.{◌and◌}
use Rattle.routine_logic.specs.Syntax.{Place, Clause, Code, end, assign, assign_link, assign_flag, havoc, assume, assert, cover, branch, loop, leave, break_out, Routine}
use Rattle.routine_table.specs.Cells.{Table, statement_cell, clause_cell, routine_cell, capped, term_of}
use Rattle.routine_table.specs.Formulas.{formula_of}

-- A clause: its kind, 1 `requires`, 2 `ensures`, 3 `invariant`; the line of that word; its formula's part. Those of a kind among n clauses from i on:
unfoldable pub clause_of : Table → ℕ → Clause
clause_of t i = record { line = clause_cell t i 1; formula = formula_of t (clause_cell t i 2) }

unfoldable pub clauses_of : Table → ℕ → ℕ → ℕ → List Clause
clauses_of t kind zero i = []
clauses_of t kind (suc n) i =
    let rest : List Clause = clauses_of t kind n (suc i) in
    cond (eqb (clause_cell t i 0) kind) (clause_of t i ∷ rest) rest

-- A statement is eight numbers: its kind, the line of its first byte, three numbers by its kind, and the statement behind it, which for `if` and
-- `while` is the one behind their blocks. Statements are numbered in text order, over all routines; by a check from 1 on, since an `ensures` has 0.
unfoldable pub place_of : Table → ℕ → Place
place_of t s = record { number = suc s; line = statement_cell t s 1 }

-- 1 `x = u`: x, u; 2 `u->link = v`: the link, u, v; 3 `u->flag = b`: the flag, u, b; 4 `havoc x`: x; 5 `assume`, 6 `assert`, 7 `cover`: the part;
-- 8 `return`; 9 `break`. Any other number is the block's end.
unfoldable pub simple_of : Table → ℕ → Code → Code
simple_of t s rest =
    cond (eqb (statement_cell t s 0) 1) (assign (place_of t s) (capped 31 (statement_cell t s 2)) (term_of t (statement_cell t s 3)) rest)
    (cond (eqb (statement_cell t s 0) 2) (assign_link (place_of t s) (term_of t (statement_cell t s 3)) (capped 3 (statement_cell t s 2)) (term_of t (statement_cell t s 4)) rest)
    (cond (eqb (statement_cell t s 0) 3) (assign_flag (place_of t s) (term_of t (statement_cell t s 3)) (capped 8 (statement_cell t s 2)) (eqb (statement_cell t s 4) 1) rest)
    (cond (eqb (statement_cell t s 0) 4) (havoc (place_of t s) (capped 31 (statement_cell t s 2)) rest)
    (cond (eqb (statement_cell t s 0) 5) (assume (place_of t s) (formula_of t (statement_cell t s 2)) rest)
    (cond (eqb (statement_cell t s 0) 6) (assert (place_of t s) (formula_of t (statement_cell t s 2)) rest)
    (cond (eqb (statement_cell t s 0) 7) (cover (place_of t s) (formula_of t (statement_cell t s 2)) rest)
    (cond (eqb (statement_cell t s 0) 8) (leave (place_of t s) rest)
    (cond (eqb (statement_cell t s 0) 9) (break_out (place_of t s) rest)
    end))))))))

-- 10 is `if`: its part, the first statement of its `else`, and the one behind; 11 is `while`: its part, its first invariant and how many it has, and
-- the one behind. Their blocks lie in the block around them, which ends at e: where they do not, that block ends.
abbrev pub second_of : Table → ℕ → ℕ
second_of t s = statement_cell t s 3

abbrev pub behind : Table → ℕ → ℕ
behind t s = statement_cell t s 5

unfoldable pub splits : Table → ℕ → ℕ → Bool
splits t s e = ltb s (second_of t s) and leb (second_of t s) (behind t s) and leb (behind t s) e

unfoldable pub encloses : Table → ℕ → ℕ → Bool
encloses t s e = ltb s (behind t s) and leb (behind t s) e

unfoldable pub branch_of : Table → ℕ → Code → Code → Code → Code
branch_of t s yes_code no_code rest = branch (place_of t s) (formula_of t (statement_cell t s 2)) yes_code no_code rest

unfoldable pub loop_of : Table → ℕ → Code → Code → Code
loop_of t s body rest = loop (place_of t s) (formula_of t (statement_cell t s 2)) (clauses_of t 3 (statement_cell t s 4) (second_of t s)) body rest

-- the statements from s on and before e, followed at most so many times
unfoldable pub code_within : Table → ℕ → ℕ → ℕ → Code
code_within t zero s e = end
code_within t (suc n) s e =
    let rest : Code = code_within t n (behind t s) e in
    let branched : Code = branch_of t s (code_within t n (suc s) (second_of t s)) (code_within t n (second_of t s) (behind t s)) rest in
    let looped : Code = loop_of t s (code_within t n (suc s) (behind t s)) rest in
    let simple : Code = simple_of t s (code_within t n (suc s) e) in
    let split : Code = cond (splits t s e) branched end in
    let round : Code = cond (encloses t s e) looped end in
    cond (ltb s e) (cond (eqb (statement_cell t s 0) 10) split (cond (eqb (statement_cell t s 0) 11) round simple)) end

-- each block is shorter than the one around it, so that its length is enough
unfoldable pub code_of : Table → ℕ → ℕ → Code
code_of t s e = code_within t (e - s) s e

-- A routine: the line of that word, the place of its name in the text, its first statement and the one behind its last, its first clause and how many
-- it has, its first variable and how many it has.
abbrev pub clauses_in : Table → ℕ → ℕ → List Clause
clauses_in t kind r = clauses_of t kind (routine_cell t r 5) (routine_cell t r 4)

unfoldable pub routine_of : Table → ℕ → Routine
routine_of t r =
    record { line = routine_cell t r 0; requires = clauses_in t 1 r; ensures = clauses_in t 2 r; body = code_of t (routine_cell t r 2) (routine_cell t r 3) }
