-- Each place that is offered is one where SCC applies.
use Rattle.std.proofs.Common.{sym, ◌∙◌, arith}
use Rattle.units.proofs.Places.{placed, lowest_in, scc_placed}
use Rattle.gains.proofs.Keeps.{kept_same, kept_better}
use Rattle.gains.proofs.scc.Goals as goal
use Rattle.gains.proofs.scc.Goals.{then-has, else-has}

pub added-requires : goal.added-requires
added-requires c = let z = lowest_in _ _ c.in-Some.ensures in (z.0, omega arith)

pub loop-y-preserved : goal.loop-y-preserved
loop-y-preserved c =
    λ n s e p.
    let g = c.args.graph.now in
    let h = c.loop-y.invariant n s e p in
    elim c.if-has.branch [
      | then-has w ↦
          kept_better n s _ _ _ _ (w.best-is ∙ w.offer.ensures) h
          (placed n s _ _ _ _ _ _ w.at.ensures
          (scc_placed n g.link g.reach s g.by e _ _ _ _ _ (omega arith) c.both_ways-both.ensures (omega arith, sym c.has.ensures ∙ w.if-has.true) c.ahead.ensures
          (lowest_in _ _ c.in-Some.ensures)))
      | else-has w ↦ kept_same n s _ _ w.best-is h
    ]
