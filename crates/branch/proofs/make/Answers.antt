-- The branch is the alternative, joined or added, behind no pairs.
use Rattle.std.proofs.Common.{ap, ◌∙◌, subst}
use Rattle.logic.specs.Facts.{Facts, unjoined}
use Rattle.facts.specs.Path.{path_of}
use Rattle.facts.proofs.Path.{link_few}
use Rattle.rules.specs.Answers.{kind_of}
use Rattle.alternatives.specs.Answers.{fact_of, InRange}
use Rattle.alternatives.proofs.Steps.{alternative_record}
use Rattle.branch.proofs.Steps.{emptied, alone_fits, join_alone, made_equal, made_reaches}
use Rattle.branch.proofs.make.Goals as goal

pub alternative-requires : goal.alternative-requires
alternative-requires c = let p = c.requires in (p.0, p.1.0, link_few c.args.goal.now.facts c.args.m.link.0 p.1, p.2)

pub join-requires : goal.join-requires
join-requires c =
    let h = subst InRange c.in-Equal.is c.alternative.ensures.1 in
    let s = path_of c.args.goal.now.facts in
    (c.requires.0, h.0, h.1, alone_fits _ _ _ s _ (emptied _ s c.none-goal.ensures) c.requires.0)

pub add_reach-requires : goal.add_reach-requires
add_reach-requires c =
    let h = subst InRange c.in-Reaches.is c.alternative.ensures.1 in
    (c.requires.1, h.0, h.1)

pub returns-in-Equal : goal.returns-in-Equal
returns-in-Equal c =
    let m = c.args.m in
    let f = c.args.goal.now.facts in
    let s = path_of f in
    made_equal m.link.0 _ s _ _
    (c.alternative.ensures.0 ∙ alternative_record m.link.0 _ f c.requires.1 (kind_of m.rule) m.x.0 m.y.0 m.z.0 c.args.i) _ _ _
    (ap (fact_of m.link.0) c.in-Equal.is) (c.join.ensures ∙ join_alone _ _ _ s _ (emptied _ s c.none-goal.ensures))

pub returns-in-Reaches : goal.returns-in-Reaches
returns-in-Reaches c =
    let m = c.args.m in
    let f = c.args.goal.now.facts in
    made_reaches m.link.0 _ (path_of f) _ _
    (c.alternative.ensures.0 ∙ alternative_record m.link.0 _ f c.requires.1 (kind_of m.rule) m.x.0 m.y.0 m.z.0 c.args.i) _ _ _
    (ap (fact_of m.link.0) c.in-Reaches.is)
    (emptied _ _ c.none-goal.ensures ∙ ap unjoined c.add_reach.ensures)
