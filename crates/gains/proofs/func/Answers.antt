-- Each place that is offered is one where FUNC applies.
use Rattle.std.proofs.Common.{sym, ◌∙◌, arith}
use Rattle.units.proofs.Places.{placed, lowest_in, func_placed}
use Rattle.gains.proofs.Keeps.{kept_same, kept_better}
use Rattle.gains.proofs.func.Goals as goal
use Rattle.gains.proofs.func.Goals.{then-has, else-has}

pub missed-far-requires : goal.missed-far-requires
missed-far-requires c = let y = lowest_in _ _ c.in-Some.ensures in (omega arith, y.0)

pub added-requires : goal.added-requires
added-requires c = let y = lowest_in _ _ c.in-Some.ensures in (y.0, omega arith)

pub loop-z-preserved : goal.loop-z-preserved
loop-z-preserved c =
    λ n s e p.
    let g = c.args.graph.now in
    let h = c.loop-z.invariant n s e p in
    elim c.if-has.branch [
      | then-has w ↦
          kept_better n s _ _ _ _ (w.best-is ∙ w.offer.ensures) h
          (placed n s _ _ _ _ _ _ w.at.ensures
          (func_placed n g.link g.reach s g.by e _ _ _ _ (omega arith) (lowest_in _ _ c.in-Some.ensures) c.missed-far.ensures
          (omega arith, sym c.has.ensures ∙ w.if-has.true)))
      | else-has w ↦ kept_same n s _ _ w.best-is h
    ]
