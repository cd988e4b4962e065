-- The search for the lowest successor gives one number more its link.
use Rattle.std.proofs.Common.{◌≡◌, ◌∙◌, arith}
use Rattle.std.proofs.Math.ListN.{length-set}
use Rattle.logic.specs.Rules.{next}
use Rattle.facts.specs.Path.{links_in}
use Rattle.completion.proofs.Links.{linked_more, found_or, next_found, next_all, next_below}
use Rattle.completion.proofs.known_links.Goals as goal

pub overflow_cast-links : goal.overflow_cast-links
overflow_cast-links c =
    let e : c.unwrap_or-to.result.0 ≡ next c.args.n (links_in c.args.link.now) c.loop-t.t =
    found_or c.successor.result _ c.unwrap_or-to.ensures ∙ next_found _ _ _ _ c.successor.ensures in
    omega (arith, next_below c.args.n (links_in c.args.link.now) c.loop-t.t, e)

pub loop-t-preserved : goal.loop-t-preserved
loop-t-preserved c =
    let l = c.loop-t in (
      simp length-set l.invariant.0,
      linked_more _ l.links l.t (omega arith) _ (found_or c.successor.result _ c.unwrap_or-to.ensures ∙ next_found _ _ _ _ c.successor.ensures) l.invariant.1,
    )

pub returns : goal.returns
returns c = let whole : c.loop-t.t ≡ 17 = omega arith in next_all _ _ _ c.loop-t.invariant.0 (rw whole at c.loop-t.invariant.1)
