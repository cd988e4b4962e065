-- Each search keeps what is best a proposal.
use Rattle.gains.proofs.most_by.Goals as goal

pub loop-y-init : goal.loop-y-init
loop-y-init c = let n = c.args.n in λ s e p. c.scc.ensures n s e (c.cycle.ensures s e (c.func.ensures n s e p))

pub loop-y-preserved : goal.loop-y-preserved
loop-y-preserved c = λ s e p. c.total_at.ensures c.args.n s e (c.loop-y.invariant s e p)
