-- Parts have lower numbers on the way down; the nodes that are left come out as all of them.
use Rattle.std.proofs.Common.{◌≡◌, ◌∷◌, ◌+◌, ◌*◌, ◌-◌, ◌≤◌}
use Rattle.logic.specs.Search.{all, from}
use Rattle.routine_logic.specs.Formulas.{holds}
use Rattle.routine_table.specs.Cells.{part_cell}
use Rattle.routine_table.specs.Formulas.{formula_below}
use Rattle.routine_state.specs.States.{state_in}
use Rattle.routine_formulas.specs.Names.{bound_in, Kept}
use Rattle.routine_formulas.proofs.Reading.+holds_everywhere_holds_part_holds_side.Given as goal

abbrev pub decreases-holds_everywhere : goal.decreases-holds_everywhere
decreases-holds_everywhere l = 4 * l.i + 2

abbrev pub decreases-holds_part : goal.decreases-holds_part
decreases-holds_part l = 4 * l.i + 3

abbrev pub decreases-holds_side : goal.decreases-holds_side
decreases-holds_side l = 4 * l.i + 1

abbrev pub invariant-holds_everywhere-loop-v : goal.invariant-holds_everywhere-loop-v
invariant-holds_everywhere-loop-v l =
    (1 ≤ l.v)
    × Kept l.initial.bound l.bound l.d
    × (all (λ x. holds (state_in l.self.state.now) (x ∷ bound_in l.initial.bound l.d) (formula_below l.self.table.now l.i (part_cell l.self.table.now l.i 1))) (from (l.v-end - 1) 1) ≡ all
    (λ x. holds (state_in l.self.state.now) (x ∷ bound_in l.initial.bound l.d) (formula_below l.self.table.now l.i (part_cell l.self.table.now l.i 1))) (from (l.v-end - l.v) l.v))
