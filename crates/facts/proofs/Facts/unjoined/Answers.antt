-- Empty rows hold nothing.
use Rattle.link_rows.proofs.Cube.{nothing_linked}
use Rattle.facts.proofs.Facts.unjoined.Goals as goal

pub returns-clause-link : goal.returns-clause-link
returns-clause-link c = nothing_linked 51

pub returns-clause-reach : goal.returns-clause-reach
returns-clause-reach c = nothing_linked 51
