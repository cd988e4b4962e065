-- What is marked, and what the literals from i on give, is what all give.
use Rattle.std.proofs.Common.{◌≡◌, length}
use Rattle.facts.specs.Path.{rep_of}
use Rattle.query.specs.LaysOut.{literal_in}
use Rattle.units.specs.Marks.{gives}
use Rattle.units.proofs.Marks.{Telling}
use Rattle.units.proofs.fields.Given as goal

abbrev pub invariant-loop-i : goal.invariant-loop-i
invariant-loop-i l = (length l.out ≡ 17) × Telling (gives (rep_of l.s.rep) l.plain) (literal_in l.query l.at) l.count l.i l.out
