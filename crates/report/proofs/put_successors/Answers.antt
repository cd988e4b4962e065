use Rattle.std.proofs.Common.{arith, sym, ◌∙◌}
use Rattle.report.proofs.Successors.{rows_none, rows_room, rows_here, rows_all, successors_are, successors_length}
use Rattle.report.proofs.put_successors.Goals as goal

pub loop-k-init : goal.loop-k-init
loop-k-init c = rows_none _ _ _ _

pub successor_bytes-bytes-requires : goal.successor_bytes-bytes-requires
successor_bytes-bytes-requires c =
    (c.requires.0.terms_within, (omega arith, omega (arith, c.links-links.ensures.0)))

pub put_nodes-requires : goal.put_nodes-requires
put_nodes-requires c =
    let p = c.requires.0 in
    let r = rows_room _ _ _ _ (λ i. successors_length _ _ _ i ∙ sym p.counted) _ _ _ _ c.loop-k.invariant
    (omega (arith, c.links-links.ensures.0)) c.requires.1 in
    (p.terms_within, omega (arith, r, p.counted), p.numbers)

pub overflow_add-to : goal.overflow_add-to
overflow_add-to c =
    let r = rows_room _ _ _ _ (λ i. successors_length _ _ _ i ∙ sym c.requires.0.counted) _ _ _ _ c.loop-k.invariant
    (omega (arith, c.links-links.ensures.0)) c.requires.1 in
    omega (arith, r, c.loop-k.invariant.same, c.well_formed)

pub loop-k-preserved : goal.loop-k-preserved
loop-k-preserved c =
    let p = c.requires.0 in
    rows_here _ _ _ _ (λ i. successors_length _ _ _ i ∙ sym p.counted) _ _ _ _ c.loop-k.invariant
    (omega (arith, c.links-links.ensures.0)) c.put_nodes.new.buffer _
    (successors_are _ _ _ _ _ c.successor_bytes-bytes.result p.terms_within p.numbers c.successor_bytes-bytes.ensures)
    c.put_nodes.auto.buffer c.put_nodes.ensures

pub returns : goal.returns
returns c =
    rows_all _ _ _ _ (λ i. successors_length _ _ _ i ∙ sym c.requires.0.counted) _ _ _ _ c.loop-k.invariant
    (omega (arith, c.links-links.ensures.0))
