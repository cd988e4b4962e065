use Rattle.facts.proofs.Path.{link_few}
use Rattle.nogoods.proofs.Branching.{links_kept, excludes_there}
use Rattle.nogoods.proofs.excluding.Goals as goal

pub alternative-fact-requires : goal.alternative-fact-requires
alternative-fact-requires c = let p = c.requires in (p.0, p.1.0, link_few c.args.path.now c.args.m.link.0 p.1, p.2)

pub excludes-requires : goal.excludes-requires
excludes-requires c = let p = c.requires in (p.0, links_kept _ _ _ c.take_round.ensures.0 p.1, p.2)

pub returns-then-excludes : goal.returns-then-excludes
returns-then-excludes c =
    let w = c.take_round.ensures in
    let p = c.requires in
    excludes_there _ _ _ _ _ (links_kept _ _ _ w.0 p.1) p.1 _ w.1 _ _ _ _ (c.excludes.ensures c.if-excludes.true)
