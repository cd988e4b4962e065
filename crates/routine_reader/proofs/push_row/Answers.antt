-- The numbers behind those that are pushed are left. Assumes nothing.
use Rattle.std.proofs.Common.{ℕ, List, arith, get_or, drop, sym, ap, ◌∙◌, ◌+◌}
use Rattle.routine_reader.specs.Rows.{row}
use Rattle.routine_reader.specs.Stack.{stack_of, pushed}
use Rattle.routine_reader.proofs.Stack.{stack_push, row-length, row_part, pushed_end, pushed-zero, pushed_next}
use Rattle.routine_reader.proofs.push_row.Goals as goal

pub returns-then-c-lt2 : goal.returns-then-c-lt2
returns-then-c-lt2 c =
    let l = c.loop-c in
    let j = c.args.j in
    let e = ap (λ (xs : List ℕ). get_or xs l.c-index 0) (sym (row_part j c.args.table.now c.requires.2)) in
    let h = pushed-zero (row j) (stack_of l.stack l.to) l.c-index _ (omega (arith, row-length j c.requires.0, c.loop-c-test.true)) e c.if-c-lt2.true in
    (h ∙ l.invariant.1, omega (arith, l.invariant.0, c.loop-c-test.true), l.auto.stack)

pub loop-c-preserved : goal.loop-c-preserved
loop-c-preserved c =
    let l = c.loop-c in
    let j = c.args.j in
    let e = ap (λ (xs : List ℕ). get_or xs l.c-index 0) (sym (row_part j c.args.table.now c.requires.2)) in
    let h = pushed_next (row j) (stack_of l.stack l.to) l.c-index _ (omega (arith, row-length j c.requires.0, c.loop-c-test.true)) e c.if-c-lt2.false in
    let p = stack_push l.stack l.to _ (omega (arith, l.invariant.0, c.requires, l.auto.stack, c.loop-c-test.true)) in
    (omega (arith, l.invariant.0), ap (pushed (drop (l.c-index + 1) (row j))) p ∙ h ∙ l.invariant.1)

pub returns : goal.returns
returns c =
    let l = c.loop-c in
    let h = pushed_end (row c.args.j) (stack_of l.stack l.to) l.c-index (omega (arith, row-length c.args.j c.requires.0, c.loop-c-test.false)) in
    (h ∙ l.invariant.1, omega (arith, l.invariant.0, l.auto.c-index-end), l.auto.stack)
