-- The links, settled; then nil, then the equalities, and then the reachability facts.
use Rattle.std.proofs.Common.{◌≡◌, sym, ap, ◌∙◌, subst}
use Rattle.logic.specs.Facts.{Joined}
use Rattle.facts.specs.Path.{path_of}
use Rattle.joins.specs.Pairs.{joined_of, Fits}
use Rattle.joins.proofs.Joins.{fits_left}
use Rattle.plain_literals.proofs.Read.{equal_terms_in}
use Rattle.plain_literals.proofs.Taken.{kept_added}
use Rattle.start.proofs.Laid.{links, links_laid, links_bounded, joins_made, start_laid, joins-links, joins_fit, nil_fits, equalities_fit}
use Rattle.start.proofs.start.Goals as goal
use Rattle.start.proofs.start.Goals.{After-settle}

-- what the links are settled to
linked : (c : After-settle) → joined_of c.settle.new.self ≡ links c.requires.0
linked c =
    let p = c.requires in
    let u = c.unjoined-facts.ensures in
    c.settle.ensures ∙ links_laid p.0 p.1 (record c.unjoined-facts.result { link = c.links_of-facts.result }) u.single u.rep c.links_of-facts.ensures u.reach _ c.of-joined.ensures

pub settle-requires : goal.settle-requires
settle-requires c =
    let p = c.requires in
    let u = c.unjoined-facts.ensures in
    let e = links_laid p.0 p.1 (record c.unjoined-facts.result { link = c.links_of-facts.result }) u.single u.rep c.links_of-facts.ensures u.reach _ c.of-joined.ensures in
    (p.0.terms_within, subst Fits (sym e) (fits_left _ _ (fits_left _ _ (joins_fit p.0 p.1))))

pub join_nil-requires : goal.join_nil-requires
join_nil-requires c =
    let p = c.requires in
    let e = linked (goal.at.join_nil-requires c).After-settle in
    record { within = (p.0, links_bounded p.0 p.1 _ e); fits = nil_fits p.0 p.1 _ e }

pub join_each-requires : goal.join_each-requires
join_each-requires c =
    let p = c.requires in
    let e = linked (goal.at.join_each-requires c).After-settle in
    let nil = c.join_nil.ensures in
    record { within = (p.0.terms_within, p.0.equal_fit, equal_terms_in p.0 p.1, nil.bounded); fits = equalities_fit p.0 p.1 _ _ e nil.result_after }

pub reach_each-requires : goal.reach_each-requires
reach_each-requires c = (c.requires.0, c.requires.1, c.join_each.ensures.bounded)

pub returns : goal.returns
returns c =
    let p = c.requires in
    let e = joins_made p.0 _ _ _ (linked (goal.at.returns c).After-settle) c.join_nil.ensures.result_after c.join_each.ensures.result_after in
    start_laid p.0 (joined_of c.join_each.new.joined) (path_of c.reach_each.new.facts) e
    (kept_added _ _ c.reach_each.ensures.kept _ _ c.reach_each.ensures.added (ap (λ (j : Joined). j.facts.links) e ∙ joins-links p.0 p.1))
