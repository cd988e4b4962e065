-- What is left to search equals the whole.
use Rattle.facts.specs.Path.{path_of}
use Rattle.link_query.specs.Said.{said}
use Rattle.literal_tests.specs.Tests.{reach_held}
use Rattle.clash.proofs.Sections.{AloneLeft}
use Rattle.clash.proofs.reach_clash.Given as goal

abbrev pub invariant-loop-i : goal.invariant-loop-i
invariant-loop-i l = AloneLeft (said l.layout l.query).reachability l.layout.reach_count 3 (reach_held (path_of l.s)) l.i
