use Rattle.nogoods.proofs.Branching.{links_kept, nogood_there}
use Rattle.nogoods.proofs.of_rule.Goals as goal

pub refutes-requires : goal.refutes-requires
refutes-requires c = let p = c.requires in (p.0, links_kept _ _ _ c.take_round.ensures.0 p.1)

pub returns-then-refutes : goal.returns-then-refutes
returns-then-refutes c =
    let w = c.take_round.ensures in
    let p = c.requires in
    nogood_there _ _ _ _ _ (links_kept _ _ _ w.0 p.1) p.1 _ w.1 _ _ _ (c.refutes.ensures c.if-refutes.true)
