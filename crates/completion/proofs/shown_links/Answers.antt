-- The links known, completed, from the rows of one link.
use Rattle.std.proofs.Common.{refl, ◌∙◌, arith}
use Rattle.facts.specs.Path.{path_of}
use Rattle.facts.proofs.Path.{link_few, link_at, reach_at}
use Rattle.completion.proofs.Links.{known_range}
use Rattle.completion.proofs.Completing.{shown}
use Rattle.completion.proofs.shown_links.Goals as goal

pub rows_of-link-requires : goal.rows_of-link-requires
rows_of-link-requires c = let p = c.requires in (p.1.0, link_few c.args.s.now _ p.1)

pub rows_of-reach-requires : goal.rows_of-reach-requires
rows_of-reach-requires c = let p = c.requires in (p.1.0, link_few c.args.s.now _ p.1)

pub invariant_of-shown-clause-in_range : goal.invariant_of-shown-clause-in_range
invariant_of-shown-clause-in_range c = known_range _ _ _ (omega arith) c.known_links.ensures

pub returns : goal.returns
unfolding path_of
returns c =
    let s = c.args.s.now in
    let h = c.requires.1 in
    shown _ (path_of s) _ _ _ _ refl (c.rows_of-link.ensures ∙ link_at s c.args.k.0 h)
    (c.rows_of-reach.ensures ∙ reach_at s c.args.k.0 h) _ _ c.known_links.ensures c.link_each.ensures
