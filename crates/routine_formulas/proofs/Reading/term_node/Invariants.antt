-- What is left of the links leads from here to the node.
use Rattle.std.proofs.Common.{◌≡◌, ◌≤◌, drop}
use Rattle.routine_logic.specs.Formulas.{follow, node}
use Rattle.routine_table.specs.Cells.{links_of, term_of}
use Rattle.routine_state.specs.States.{state_in}
use Rattle.routine_formulas.specs.Names.{bound_in}
use Rattle.routine_formulas.proofs.Reading.term_node.Given as goal

abbrev pub invariant-loop-at : goal.invariant-loop-at
invariant-loop-at l =
    (l.v ≤ 31) × (node (state_in l.self.state.now) (bound_in l.bound l.d) (term_of l.self.table.now l.p) ≡ follow (state_in l.self.state.now) (links_of (drop l.at l.self.table.now)) l.v)
