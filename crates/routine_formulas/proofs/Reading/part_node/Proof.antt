-- A term of the part. Assumes nothing.
use native.Mathlib.Omega.{arith}
use Rattle.routine_formulas.proofs.Terms.{node-at_same}
use Rattle.routine_formulas.proofs.Reading.part_node.Statement.{statement}
use Rattle.routine_formulas.proofs.Reading.part_node.Tie as tie

pub part_node_spec : {M : Type 1} → statement M
part_node_spec =
    tie.close
    (tie.spec
    -- part-cell-requires
    (λ c κs.
    (omega (arith, c.requires.0), omega (arith, c.requires.1)))
    -- term-node-requires
    (λ c κs. c.part_cell-p.ensures.1)
    -- returns
    (λ c. (node-at_same _ _ _ _ _ _ c.part_cell-p.ensures.0 c.term_node.ensures.0, c.term_node.ensures.1)))
