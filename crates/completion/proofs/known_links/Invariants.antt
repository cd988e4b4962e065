-- After t turns, the numbers below t have their links.
use Rattle.std.proofs.Common.{◌≡◌, length}
use Rattle.logic.specs.Rules.{next}
use Rattle.facts.specs.Path.{links_in}
use Rattle.completion.specs.Links.{link_of}
use Rattle.completion.proofs.Links.{LinkedBelow}
use Rattle.completion.proofs.known_links.Given as goal

abbrev pub invariant-loop-t : goal.invariant-loop-t
invariant-loop-t l = (length l.links ≡ 17) × LinkedBelow l.t (next l.n (links_in l.link)) (link_of l.links)
