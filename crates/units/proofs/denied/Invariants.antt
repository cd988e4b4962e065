-- What is marked, and what the literals from i on deny, is what all deny.
use Rattle.std.proofs.Common.{◌≡◌, length}
use Rattle.facts.specs.Path.{rep_of}
use Rattle.link_query.specs.Said.{reach_in}
use Rattle.units.specs.Marks.{denies}
use Rattle.units.proofs.Marks.{Telling}
use Rattle.units.proofs.denied.Given as goal

abbrev pub invariant-loop-i : goal.invariant-loop-i
invariant-loop-i l = (length l.out ≡ 17) × Telling (denies (rep_of l.s.rep) l.k.0) (reach_in l.links l.query l.at) l.fn.layout.reach_count l.i l.out
