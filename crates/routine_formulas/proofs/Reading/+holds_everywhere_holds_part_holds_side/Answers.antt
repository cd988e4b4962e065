-- A part by its kind, and a `forall` by its side. Assumes nothing.
use Rattle.std.proofs.Common.{◌≤◌, arith, sym, ◌∙◌}
use mathlib.Core.Logic.{inl, inr}
use Rattle.rows.proofs.Loops.{all_end, all_fails, all_next}
use Rattle.routine_formulas.proofs.Parts.{part_atom, part_negation, part_everywhere, part_joined, side_here, side_none}
use Rattle.routine_formulas.proofs.Parts.{kept_truth, turn_truth, turn_kept, room_inside, all_nodes}
use Rattle.routine_formulas.proofs.Reading.+holds_everywhere_holds_part_holds_side.Goals as goal

pub holds_everywhere-returns-then-not-holds_side-clause-kept : goal.holds_everywhere-returns-then-not-holds_side-clause-kept
holds_everywhere-returns-then-not-holds_side-clause-kept t c =
    let l = c.loop-v in
    let small : l.v ≤ 31 = omega (arith, c.size_of-v-end.ensures.1, c.loop-v-test.true) in
    let inside = room_inside c.args.bound.now l.bound _ c.args.i l.invariant.1.same_length c.requires.0 in
    turn_kept _ _ _ l.invariant.1 _ inside small _ c.holds_side.ensures.kept

pub holds_everywhere-returns-then-not-holds_side-clause-value : goal.holds_everywhere-returns-then-not-holds_side-clause-value
holds_everywhere-returns-then-not-holds_side-clause-value t c =
    let l = c.loop-v in
    let small : l.v ≤ 31 = omega (arith, c.size_of-v-end.ensures.1, c.loop-v-test.true) in
    let inside = room_inside c.args.bound.now l.bound _ c.args.i l.invariant.1.same_length c.requires.0 in
    all_nodes _ _ _ _ c.size_of-v-end.ensures.0 (l.invariant.2 ∙ all_fails _ _ _ c.loop-v-test.true (sym (turn_truth _ _ _ l.invariant.1 _ inside small _ _ _ c.holds_side.ensures.value) ∙ c.if-not-holds_side.true))

pub holds_everywhere-loop-v-preserved : goal.holds_everywhere-loop-v-preserved
holds_everywhere-loop-v-preserved t c =
    let l = c.loop-v in
    let small : l.v ≤ 31 = omega (arith, c.size_of-v-end.ensures.1, c.loop-v-test.true) in
    let inside = room_inside c.args.bound.now l.bound _ c.args.i l.invariant.1.same_length c.requires.0 in (
      omega arith,
      turn_kept _ _ _ l.invariant.1 _ inside small _ c.holds_side.ensures.kept,
      l.invariant.2 ∙ all_next _ _ _ c.loop-v-test.true (sym (turn_truth _ _ _ l.invariant.1 _ inside small _ _ _ c.holds_side.ensures.value) ∙ c.if-not-holds_side.false),
    )

pub holds_everywhere-returns-clause-value : goal.holds_everywhere-returns-clause-value
holds_everywhere-returns-clause-value t c = all_nodes _ _ _ _ c.size_of-v-end.ensures.0 (c.loop-v.invariant.2 ∙ all_end _ _ _ c.loop-v-test.false)

pub holds_part-returns-then-kind-eq12-clause-value : goal.holds_part-returns-then-kind-eq12-clause-value
holds_part-returns-then-kind-eq12-clause-value t c = part_everywhere _ _ _ _ _ c.part_cell-kind.ensures.0 _ c.if-kind-eq12.true c.holds_everywhere.ensures.value

pub holds_part-returns-then-kind-lt7-clause-value : goal.holds_part-returns-then-kind-lt7-clause-value
holds_part-returns-then-kind-lt7-clause-value t c = part_atom _ _ _ _ _ c.part_cell-kind.ensures.0 _ (inl c.if-kind-lt7.true) c.holds_atom.ensures

pub holds_part-returns-then-kind-gt12-clause-value : goal.holds_part-returns-then-kind-gt12-clause-value
holds_part-returns-then-kind-gt12-clause-value t c = part_atom _ _ _ _ _ c.part_cell-kind.ensures.0 _ (inr c.if-kind-gt12.true) c.holds_atom-then-kind-gt12.ensures

pub holds_part-returns-then-kind-eq7-clause-value : goal.holds_part-returns-then-kind-eq7-clause-value
holds_part-returns-then-kind-eq7-clause-value t c = part_negation _ _ _ _ _ c.part_cell-kind.ensures.0 _ c.if-kind-eq7.true c.holds_side-a.ensures.value

pub holds_part-returns-clause-value : goal.holds_part-returns-clause-value
holds_part-returns-clause-value t c =
    part_joined _ _ _ _ _ c.part_cell-kind.ensures.0 _ _ _ c.if-kind-lt7.false c.if-kind-gt12.false c.if-kind-eq7.false c.if-kind-eq12.false
    c.holds_side-a.ensures.value (kept_truth _ _ _ c.holds_side-a.ensures.kept _ _ _ c.holds_side-b.ensures.value) c.joined.ensures

pub holds_side-returns-then-j-i-clause-value : goal.holds_side-returns-then-j-i-clause-value
holds_side-returns-then-j-i-clause-value t c = side_here _ _ _ _ _ _ _ c.part_cell-j.ensures.0 c.if-j-i.true c.holds_part.ensures.value

pub holds_side-returns-clause-value : goal.holds_side-returns-clause-value
holds_side-returns-clause-value t c = side_none _ _ _ _ _ _ c.part_cell-j.ensures.0 c.if-j-i.false
