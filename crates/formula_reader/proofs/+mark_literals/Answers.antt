-- By the kind of a node: its own mark, or those of its sides. Assumes nothing.
use Rattle.std.proofs.Common.{arith, length-set, ◌∙◌}
use Rattle.formula_reader.proofs.Picking.{at_both, at_either, leaf_inside, leaf-marks, divides, left_at, right_at, both_at, first_at, second_at, first_picked, second_picked}
use Rattle.formula_reader.proofs.+mark_literals.Goals as goal

pub overflow_add-marks : goal.overflow_add-marks
overflow_add-marks t c = let q = leaf_inside c.requires.0.1 c.if-kind-lt4.true in omega arith

pub bounds-marks-kind : goal.bounds-marks-kind
bounds-marks-kind t c = leaf_inside c.requires.0.1 c.if-kind-lt4.true

pub returns-then-kind-lt4 : goal.returns-then-kind-lt4
returns-then-kind-lt4 t c = (simp length-set, λ f p. leaf-marks p c.if-kind-lt4.true c.args.marks.now c.requires.1)

pub nonzero_div-k : goal.nonzero_div-k
nonzero_div-k t c = let p = c.requires.0.1 in divides p (at_both p.tree c.if-kind-eq4.true) _ c.count_at-fast.ensures

pub mark_literals-requires : goal.mark_literals-requires
mark_literals-requires t c =
    let p = c.requires.0.1 in
    let j = at_both p.tree c.if-kind-eq4.true in
    (omega (arith, j.first_below), ((j.left, left_at p j _ c.count_at-fast.ensures), c.requires.1))

pub nonzero_rem-k : goal.nonzero_rem-k
nonzero_rem-k t c = let p = c.requires.0.1 in divides p (at_both p.tree c.if-kind-eq4.true) _ c.count_at-fast.ensures

pub mark_literals-requires-then-kind-eq4 : goal.mark_literals-requires-then-kind-eq4
mark_literals-requires-then-kind-eq4 t c =
    let p = c.requires.0.1 in
    let j = at_both p.tree c.if-kind-eq4.true in
    (omega (arith, j.second_below), ((j.right, right_at p j _ c.count_at-fast.ensures), c.mark_literals.ensures.0 ∙ c.requires.1))

pub returns-then-kind-eq4 : goal.returns-then-kind-eq4
returns-then-kind-eq4 t c = (
  c.mark_literals-then-kind-eq4.ensures.0 ∙ c.mark_literals.ensures.0,
  λ f p. let j = at_both p.tree c.if-kind-eq4.true in
      both_at p j c.count_at-fast.result c.count_at-fast.ensures c.args.marks.now
      c.mark_literals.new.marks c.mark_literals-then-kind-eq4.new.marks c.mark_literals.ensures c.mark_literals-then-kind-eq4.ensures,
)

pub count_at-first-requires : goal.count_at-first-requires
count_at-first-requires t c =
    let p = c.requires.0.1 in let j = at_either p.tree c.if-kind-lt4.false c.if-kind-eq4.false in omega (arith, j.first_below, p.placed)

pub mark_literals-requires-then-k-first : goal.mark_literals-requires-then-k-first
mark_literals-requires-then-k-first t c =
    let p = c.requires.0.1 in
    let j = at_either p.tree c.if-kind-lt4.false c.if-kind-eq4.false in
    (omega (arith, j.first_below), ((j.left, first_at p j c.count_at-first.result c.count_at-first.ensures c.if-k-first.true), c.requires.1))

pub returns-then-k-first : goal.returns-then-k-first
returns-then-k-first t c = (
  c.mark_literals-then-k-first.ensures.0,
  λ f p. let j = at_either p.tree c.if-kind-lt4.false c.if-kind-eq4.false in
      first_picked p j c.count_at-first.result c.count_at-first.ensures c.args.marks.now
      c.mark_literals-then-k-first.new.marks c.if-k-first.true c.mark_literals-then-k-first.ensures,
)

pub mark_literals-requires-2 : goal.mark_literals-requires-2
mark_literals-requires-2 t c =
    let p = c.requires.0.1 in
    let j = at_either p.tree c.if-kind-lt4.false c.if-kind-eq4.false in
    (omega (arith, j.second_below), ((j.right, second_at p j c.count_at-first.result c.count_at-first.ensures c.if-k-first.false), c.requires.1))

pub returns : goal.returns
returns t c = (
  c.mark_literals-2.ensures.0,
  λ f p. let j = at_either p.tree c.if-kind-lt4.false c.if-kind-eq4.false in
      second_picked p j c.count_at-first.result c.count_at-first.ensures c.args.marks.now
      c.mark_literals-2.new.marks c.if-k-first.false c.mark_literals-2.ensures,
)
