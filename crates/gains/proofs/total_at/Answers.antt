-- Each place that is offered is one where TOTAL applies.
use Rattle.std.proofs.Common.{sym, ◌∙◌, arith}
use Rattle.units.proofs.Places.{placed, lowest_in, total-found}
use Rattle.gains.proofs.Keeps.{kept_same, kept_better}
use Rattle.gains.proofs.total_at.Goals as goal
use Rattle.gains.proofs.total_at.Goals.{in-Some, in_default}

pub loop-z-preserved : goal.loop-z-preserved
loop-z-preserved c =
    λ n s e p.
    let g = c.args.graph.now in
    let h = c.loop-z.invariant n s e p in
    elim c.match-lowest.branch [
      | in-Some w ↦
          kept_better n s _ _ _ _ (w.best-is ∙ w.offer.ensures) h
          (placed n s _ _ _ _ _ _ w.at.ensures
          (total-found n g.link g.reach s g.by e _ _ _ g.back g.turned c.requires (omega arith) (sym c.has.ensures ∙ c.if-has.false)
          (lowest_in _ _ w.in-Some.ensures)))
      | in_default w ↦ kept_same n s _ _ w.best-is h
    ]
