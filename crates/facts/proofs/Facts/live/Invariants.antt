-- After t terms, those are told.
use Rattle.rows.specs.Bits.{bit}
use Rattle.rows.proofs.Fill.{Filled}
use Rattle.facts.proofs.Alive.{itself}
use Rattle.facts.proofs.Facts.live.Given as goal

abbrev pub invariant-loop-t : goal.invariant-loop-t
invariant-loop-t l = Filled (itself l.self.rep) (bit 0) l.t (bit l.out)
