-- By its kind. Assumes nothing.
use native.Mathlib.Omega.{arith}
use borrow.Author.Rules.{rules}
use Rattle.routine_formulas.proofs.Parts.{atom_always, atom_equal, atom_unequal, atom_reaches, atom_between, atom_flag, atom_never}
use Rattle.routine_formulas.proofs.Reading.holds_atom.Statement.{statement}
use Rattle.routine_formulas.proofs.Reading.holds_atom.Tie as tie

pub holds_atom_spec : {M : Type 1} → statement M
holds_atom_spec =
    tie.close
    (tie.spec
    -- part-cell-requires
    (λ c κs. (omega (arith, c.requires), omega arith))
    -- returns
    (λ c. atom_always _ _ _ _ _ c.part_cell-kind.ensures.0 c.if-kind-eq1.true)
    -- part-cell-requires-2
    (λ c κs. (omega (arith, c.requires), omega arith))
    -- part-node-requires
    (λ c κs.
    (c.requires, omega arith))
    -- flag-of-requires
    (λ c κs. search rules)
    -- returns-2
    (λ c. atom_flag _ _ _ _ _ c.part_cell-kind.ensures.0 _ _ _ c.if-kind-eq6.true c.part_cell-name.ensures.0
    c.part_node-v.ensures.0 c.flag_of.ensures)
    -- part-node-requires-2
    (λ c κs.
    (c.requires, omega arith))
    -- returns-3
    (λ c.
    atom_equal _ _ _ _ _ c.part_cell-kind.ensures.0 _ _ c.if-kind-eq2.true c.part_node-v.ensures.0 c.part_node-w.ensures.0)
    -- returns-4
    (λ c.
    atom_unequal _ _ _ _ _ c.part_cell-kind.ensures.0 _ _ c.if-kind-eq3.true c.part_node-v.ensures.0 c.part_node-w.ensures.0)
    -- reaches-requires
    (λ c κs. search rules)
    -- returns-5
    (λ c.
    atom_reaches _ _ _ _ _ c.part_cell-kind.ensures.0 _ _ _ _ c.if-kind-eq4.true c.part_cell-name.ensures.0 c.part_node-v.ensures.0
    c.part_node-w.ensures.0 c.reaches.ensures)
    -- part-node-requires-3
    (λ c κs.
    (c.requires, omega arith))
    -- between-requires
    (λ c κs. search rules)
    -- returns-6
    (λ c.
    atom_between _ _ _ _ _ c.part_cell-kind.ensures.0 _ _ _ _ _ c.if-kind-eq5.true c.part_cell-name.ensures.0 c.part_node-v.ensures.0 c.part_node-w.ensures.0
    c.part_node-u.ensures.0 c.between.ensures)
    -- returns-7
    (λ c.
    atom_never _ _ _ _ _ c.part_cell-kind.ensures.0 c.if-kind-eq1.false c.if-kind-eq6.false c.if-kind-eq2.false
    c.if-kind-eq3.false c.if-kind-eq4.false c.if-kind-eq5.false))
