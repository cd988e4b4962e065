-- After t terms, those stand for themselves.
use Rattle.std.proofs.Common.{◌≡◌, length}
use Rattle.facts.proofs.Itself.{Itself}
use Rattle.facts.proofs.unreplaced.Given as goal

abbrev pub invariant-loop-t : goal.invariant-loop-t
invariant-loop-t l = (length l.rep ≡ 17) × Itself l.t l.rep
