-- Whichever proposes first.
use Rattle.units.proofs.place.Goals as goal

pub returns : goal.returns
returns c = c.total.ensures c.args.n
