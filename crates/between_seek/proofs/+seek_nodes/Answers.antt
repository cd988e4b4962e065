-- The nodes from v on, each tried in its turn. Assumes nothing.
use Rattle.std.proofs.Common.{arith, sym, ◌∙◌, ◌≤◌}
use Rattle.rows.proofs.Loops.{first_end, first_here, first_next}
use Rattle.between_seek.proofs.Naming.{found_from, all_named, first_node, tested-next, placed-next, left_out, goes_on}
use Rattle.between_seek.proofs.+seek_nodes.Goals as goal

pub returns-then-q-t : goal.returns-then-q-t
unfolding found_from
returns-then-q-t t c = let p = c.requires in all_named _ _ _ _ _ _ p.0 p.2 c.if-q-t.true

pub loop-v-init : goal.loop-v-init
loop-v-init t c =
    let p = c.requires in first_node _ _ _ _ _ _ p.0 p.2 _ _ c.if-q-t.false (c.lowest-first.ensures.0 _) (c.highest-last.ensures.0 _)

pub breaks-requires : goal.breaks-requires
breaks-requires t c =
    let p = c.requires in
    let i = c.if-q-t.false in
    let small : c.loop-v.v ≤ 5 = omega (arith, c.highest-last.ensures.1, c.loop-v-test.true) in
    (p.0, tested-next _ _ _ _ _ _ p.0 p.2 _ _ c.with_node-tried.ensures i small p.1, p.2.low, i)

pub loop-v-preserved-then-breaks : goal.loop-v-preserved-then-breaks
loop-v-preserved-then-breaks t c =
    let p = c.requires in
    let out = left_out _ _ _ _ _ _ p.0 p.2 _ _ c.with_node-tried.ensures c.if-q-t.false _ c.breaks.ensures c.if-breaks.true in
    c.loop-v.invariant ∙ first_next _ _ _ c.loop-v-test.true out

pub seek_nodes-requires : goal.seek_nodes-requires
seek_nodes-requires t c =
    let p = c.requires in
    let i = c.if-q-t.false in
    let e = c.with_node-tried.ensures in
    let small : c.loop-v.v ≤ 5 = omega (arith, c.highest-last.ensures.1, c.loop-v-test.true) in (
      omega (arith, i),
      (p.0, tested-next _ _ _ _ _ _ p.0 p.2 _ _ e i small p.1, placed-next _ _ _ _ _ _ p.0 p.2 _ _ e i),
    )

pub returns-in-Some : goal.returns-in-Some
unfolding found_from
returns-in-Some t c =
    let p = c.requires in
    sym (c.loop-v.invariant ∙ first_here _ _ _ _ c.loop-v-test.true
    (goes_on _ _ _ _ _ _ p.0 p.2 _ _ c.with_node-tried.ensures c.if-q-t.false _ c.breaks.ensures c.if-breaks.false _ c.in-Some.ensures))

pub loop-v-preserved : goal.loop-v-preserved
unfolding found_from
loop-v-preserved t c =
    let p = c.requires in
    c.loop-v.invariant ∙ first_next _ _ _ c.loop-v-test.true
    (goes_on _ _ _ _ _ _ p.0 p.2 _ _ c.with_node-tried.ensures c.if-q-t.false _ c.breaks.ensures c.if-breaks.false _ c.in_default.ensures)

pub returns : goal.returns
unfolding found_from
returns t c = sym (c.loop-v.invariant ∙ first_end _ _ _ c.loop-v-test.false)
