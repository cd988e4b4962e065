-- One term more stands for itself; all of them at the end.
use Rattle.std.proofs.Common.{◌≡◌, arith}
use Rattle.std.proofs.Math.ListN.{length-set}
use Rattle.facts.proofs.Itself.{itself_more, itself_all}
use Rattle.facts.proofs.unreplaced.Goals as goal

pub loop-t-preserved : goal.loop-t-preserved
loop-t-preserved c = (simp length-set c.loop-t.invariant.0, itself_more _ c.loop-t.invariant.0 _ (omega arith) c.loop-t.invariant.1)

pub returns : goal.returns
returns c = let whole : c.loop-t.t ≡ 17 = omega arith in itself_all _ (rw whole at c.loop-t.invariant.1)
