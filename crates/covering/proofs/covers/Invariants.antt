-- The links below k are held.
use Rattle.covering.proofs.Held.{Below, LinkHeld}
use Rattle.covering.proofs.covers.Given as goal

abbrev pub invariant-loop-k : goal.invariant-loop-k
invariant-loop-k l = Below (LinkHeld l.w l.s) l.k
