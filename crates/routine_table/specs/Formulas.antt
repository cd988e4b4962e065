-- The formulas of a table (03, "formula"). A part stands behind its sides, so that it has a higher number than they.
use Rattle.std.specs.Prelude.{ℕ, zero, suc, cond, eqb, ltb}
use Rattle.routine_logic.specs.Syntax.{Term, Formula, always, never, equal, unequal, reaches, between, flag, negation, both, either, implies, same, forall}
use Rattle.routine_table.specs.Cells.{Table, most_parts, part_cell, term_of}

-- A part is eight numbers: its kind; by its kind three terms, or two sides, which are parts; and the link or the flag that an atom names. Terms of it:
abbrev pub part_term : Table → ℕ → ℕ → Term
part_term t i k = term_of t (part_cell t i k)

-- what an atom says: 1 is `true`, 2 `==`, 3 `!=`, 4 `reaches`, 5 `between`, 6 a flag; 0, as any other number, is `false`
unfoldable pub atom_of : Table → ℕ → Formula
atom_of t i =
    cond (eqb (part_cell t i 0) 1) always
    (cond (eqb (part_cell t i 0) 2) (equal (part_term t i 1) (part_term t i 2))
    (cond (eqb (part_cell t i 0) 3) (unequal (part_term t i 1) (part_term t i 2))
    (cond (eqb (part_cell t i 0) 4) (reaches (part_cell t i 4) (part_term t i 1) (part_term t i 2))
    (cond (eqb (part_cell t i 0) 5) (between (part_cell t i 4) (part_term t i 1) (part_term t i 2) (part_term t i 3))
    (cond (eqb (part_cell t i 0) 6) (flag (part_cell t i 4) (part_term t i 1))
    never)))))

-- 7 is `!`, 8 `&&`, 9 `||`, 10 `=>`, 11 `<=>` and 12 a `forall` of one name
unfoldable pub join_of : Table → ℕ → Formula → Formula → Formula
join_of t i f g =
    cond (eqb (part_cell t i 0) 7) (negation f)
    (cond (eqb (part_cell t i 0) 8) (both f g)
    (cond (eqb (part_cell t i 0) 9) (either f g)
    (cond (eqb (part_cell t i 0) 10) (implies f g)
    (cond (eqb (part_cell t i 0) 11) (same f g)
    (cond (eqb (part_cell t i 0) 12) (forall f)
    (atom_of t i))))))

-- part i, its sides followed at most so many times; a side that does not stand before its part is `false`
unfoldable pub formula_within : Table → ℕ → ℕ → Formula
formula_within t zero i = never
formula_within t (suc n) i =
    let f : Formula = cond (ltb (part_cell t i 1) i) (formula_within t n (part_cell t i 1)) never in
    let g : Formula = cond (ltb (part_cell t i 2) i) (formula_within t n (part_cell t i 2)) never in
    join_of t i f g

-- sides have lower numbers than their part, so that one more than i times is enough
unfoldable pub formula_at : Table → ℕ → Formula
formula_at t i = formula_within t (suc i) i

-- the formula of part i, where it is one of the parts below n
unfoldable pub formula_below : Table → ℕ → ℕ → Formula
formula_below t n i = cond (ltb i n) (formula_at t i) never

unfoldable pub formula_of : Table → ℕ → Formula
formula_of t i = formula_below t most_parts i
