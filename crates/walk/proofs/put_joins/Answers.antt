-- What is left of the pairs comes out as the whole.
use Rattle.std.proofs.Common.{ℕ, ◌≤◌, arith, refl, sym, ap, ◌∙◌, subst, length}
use Rattle.joins.proofs.Joins.{pairs-count}
use Rattle.walk.proofs.Lines.{counted_bound, put_line-length', left_begin, left-next, left_end}
use Rattle.walk.proofs.put_joins.Goals as goal

pub loop-i-init : goal.loop-i-init
loop-i-init c = (left_begin _ _ _, c.requires.1, refl)

pub offset_bounds-pairs-i : goal.offset_bounds-pairs-i
offset_bounds-pairs-i c = omega (arith, pairs-count c.args.pairs.now)

pub bounds-pairs-i : goal.bounds-pairs-i
bounds-pairs-i c = omega (arith, pairs-count c.args.pairs.now)

pub bounds-pairs-i-in-loop-i : goal.bounds-pairs-i-in-loop-i
bounds-pairs-i-in-loop-i c = omega (arith, pairs-count c.args.pairs.now)

pub loop-i-preserved : goal.loop-i-preserved
loop-i-preserved c =
    let l = c.loop-i in (
      left-next c.args.pairs.now _ _ l.i _ _ l.invariant.0 _ _ _ _ c.loop-i-test.true c.from.ensures c.from-in-loop-i.ensures c.put_line.ensures c.counted-count.ensures,
      subst (λ (j : ℕ). j ≤ 16001) (sym c.counted-count.ensures) (counted_bound _ l.invariant.1),
      ap length c.put_line.ensures ∙ put_line-length' _ _ _ ∙ l.invariant.2,
    )

pub returns-clause-value : goal.returns-clause-value
returns-clause-value c = (left_end c.args.pairs.now _ _ _ _ _ c.loop-i.invariant.0 (omega arith)).0

pub returns-clause-lines_after : goal.returns-clause-lines_after
returns-clause-lines_after c = (left_end c.args.pairs.now _ _ _ _ _ c.loop-i.invariant.0 (omega arith)).1
