-- What is proposed by the rows of a link applies by that link of the path.
use Rattle.units.proofs.unit_by.Goals as goal

pub returns : goal.returns
returns c = c.place.ensures _ c.of-graph.ensures.0
