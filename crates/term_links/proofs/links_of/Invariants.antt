-- After the terms below b, the links to those are held.
use Rattle.std.proofs.Common.{◌≡◌, length}
use Rattle.link_rows.specs.Cube.{cube}
use Rattle.link_query.specs.Said.{said}
use Rattle.term_links.proofs.Entries.{LinksTo}
use Rattle.term_links.proofs.links_of.Given as goal

abbrev pub invariant-loop-b : goal.invariant-loop-b
invariant-loop-b l = (length l.link ≡ 51) × LinksTo (said l.layout l.query).entries l.b (cube l.link)
