-- What the search finds, or 0.
use Rattle.facts.specs.Path.{links_in}
use Rattle.link_steps.proofs.Around.{next_or}
use Rattle.link_steps.proofs.next.Goals as goal

pub returns : goal.returns
unfolding links_in
returns c = next_or _ (links_in c.args.link.now) _ _ _ c.successor.ensures c.unwrap_or.ensures
