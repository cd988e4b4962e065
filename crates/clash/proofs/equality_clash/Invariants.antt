-- What is left to search equals the whole.
use Rattle.facts.specs.Path.{path_of}
use Rattle.literal_tests.specs.Tests.{one_term}
use Rattle.clash.specs.Sections.{literals_in}
use Rattle.clash.proofs.Sections.{AloneLeft}
use Rattle.clash.proofs.equality_clash.Given as goal

abbrev pub invariant-loop-i : goal.invariant-loop-i
invariant-loop-i l = AloneLeft (literals_in l.query l.at l.count) l.count 2 (one_term (path_of l.s).rep) l.i
