-- The links of node j from v on, each tried in its turn. Assumes nothing.
use Rattle.std.proofs.Common.{arith, sym, ◌∙◌, ◌≤◌}
use Rattle.rows.proofs.Loops.{first_end, first_here, first_next}
use Rattle.between_seek.proofs.Linking.{linked_from, chosen-all, all_linked, first_link, small_next, chosen_on, linked_on}
use Rattle.between_seek.proofs.+seek_links.Goals as goal

pub nodes_found-requires : goal.nodes_found-requires
nodes_found-requires t c = let p = c.requires in (p.0, p.1, chosen-all _ _ _ _ _ _ p.0 p.3 p.4 c.if-q-j.true)

pub returns-then-q-j : goal.returns-then-q-j
unfolding linked_from
returns-then-q-j t c = let p = c.requires in c.nodes_found.ensures ∙ all_linked _ _ _ _ _ _ p.0 p.3 p.4 c.if-q-j.true

pub loop-v-init : goal.loop-v-init
loop-v-init t c = let p = c.requires in first_link _ _ _ _ _ _ p.0 p.3 p.4 c.if-q-j.false

pub seek_links-requires : goal.seek_links-requires
seek_links-requires t c =
    let p = c.requires in
    let i = c.if-q-j.false in
    let e = c.with_node-chosen.ensures in
    let small : c.loop-v.v ≤ 5 = omega (arith, c.loop-v-test.true, p.0.few_nodes) in (
      omega (arith, i),
      (p.0, small_next _ _ _ _ _ _ p.0 p.3 p.4 _ _ e i small p.1, omega arith, omega (arith, i), chosen_on _ _ _ _ _ _ p.0 p.3 p.4 _ _ e i),
    )

pub returns-in-Some : goal.returns-in-Some
unfolding linked_from
returns-in-Some t c =
    let p = c.requires in
    sym (c.loop-v.invariant ∙ first_here _ _ _ _ c.loop-v-test.true
    (linked_on _ _ _ _ _ _ p.0 p.3 p.4 _ _ c.with_node-chosen.ensures c.if-q-j.false _ c.in-Some.ensures))

pub loop-v-preserved : goal.loop-v-preserved
unfolding linked_from
loop-v-preserved t c =
    let p = c.requires in
    c.loop-v.invariant ∙ first_next _ _ _ c.loop-v-test.true
    (linked_on _ _ _ _ _ _ p.0 p.3 p.4 _ _ c.with_node-chosen.ensures c.if-q-j.false _ c.in_default.ensures)

pub returns : goal.returns
unfolding linked_from
returns t c = sym (c.loop-v.invariant ∙ first_end _ _ _ c.loop-v-test.false)
