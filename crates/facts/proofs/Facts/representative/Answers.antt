-- What the array says.
use Rattle.facts.specs.Path.{path_of}
use Rattle.facts.proofs.Facts.representative.Goals as goal

pub returns : goal.returns
unfolding path_of
returns c = c.read_rep.ensures
