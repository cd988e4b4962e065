-- What is left to search equals the whole.
use Rattle.facts.specs.Path.{path_of}
use Rattle.literal_tests.specs.Tests.{same_field}
use Rattle.clash.specs.Sections.{literals_in}
use Rattle.clash.proofs.Sections.{PairedLeft}
use Rattle.clash.proofs.field_clash.Given as goal

abbrev pub invariant-loop-i : goal.invariant-loop-i
invariant-loop-i l = PairedLeft (literals_in l.query l.at l.count) l.count 4 (same_field (path_of l.s).rep) l.i
