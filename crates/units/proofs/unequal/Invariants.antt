-- What is marked, and what the literals from i on hold apart, is what all hold apart.
use Rattle.std.proofs.Common.{◌≡◌, length}
use Rattle.facts.specs.Path.{rep_of}
use Rattle.query.specs.LaysOut.{literal_in}
use Rattle.units.specs.Marks.{holds_apart}
use Rattle.units.proofs.Marks.{Telling}
use Rattle.units.proofs.unequal.Given as goal

abbrev pub invariant-loop-i : goal.invariant-loop-i
invariant-loop-i l = (length l.out ≡ 17) × Telling (holds_apart (rep_of l.s.rep)) (literal_in l.query l.at) l.count l.i l.out
