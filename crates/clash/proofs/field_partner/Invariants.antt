-- What is left to search equals the whole.
use Rattle.std.proofs.Common.{◌+◌}
use Rattle.facts.specs.Path.{path_of}
use Rattle.literal_tests.specs.Tests.{same_field}
use Rattle.clash.specs.Sections.{literals_in}
use Rattle.clash.proofs.Sections.{PartnerLeft}
use Rattle.clash.proofs.field_partner.Given as goal

abbrev pub invariant-loop-j : goal.invariant-loop-j
invariant-loop-j l = PartnerLeft (literals_in l.query l.at l.count) l.count (same_field (path_of l.s).rep) (l.i + 1) l.j
