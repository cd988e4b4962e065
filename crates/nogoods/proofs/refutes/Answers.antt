use mathlib.Core.Path.{sym, ◌∙◌}
use Rattle.nogoods.proofs.Branching.{nogood_ruled}
use Rattle.nogoods.proofs.refutes.Goals as goal

pub returns-then-covers : goal.returns-then-covers
returns-then-covers c e = nogood_ruled _ _ _ _ _ _ _ _ (c.covers.ensures c.if-covers.true) (sym c.applies.ensures ∙ e)
