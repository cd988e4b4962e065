-- What is set so far and what is left make the whole.
use Rattle.completion.proofs.Rows.{LedBelow}
use Rattle.completion.proofs.Shown.led_to.Given as goal

abbrev pub invariant-loop-u : goal.invariant-loop-u
invariant-loop-u l = LedBelow l.self.reach l.self.links l.self.n l.v.0 l.u l.row
