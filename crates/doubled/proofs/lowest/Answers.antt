-- The terms in order: the first that has two successors answers, and none where all were passed.
use Rattle.std.proofs.Common.{refl, sym, ◌∙◌, arith}
use Rattle.logic.specs.Facts.{terms}
use Rattle.rows.proofs.Loops.{first_end, first_here, first_next}
use Rattle.facts.specs.Path.{path_of}
use Rattle.doubled.specs.Doubled.{doubled_in}
use Rattle.doubled.proofs.Twos.{up_to, doubled-links}
use Rattle.doubled.proofs.lowest.Goals as goal

pub loop-t-init : goal.loop-t-init
unfolding terms
loop-t-init c = up_to _ _ _ refl

pub returns-in-Some : goal.returns-in-Some
unfolding doubled_in path_of
returns-in-Some c =
    let s = c.args.s.now in
    sym (sym (doubled-links c.args.n s.single s.rep s.link s.reach) ∙ c.loop-t.invariant ∙ first_here _ _ _ _ (omega arith) (sym c.in-Some.ensures))

pub loop-t-preserved : goal.loop-t-preserved
loop-t-preserved c = c.loop-t.invariant ∙ first_next _ _ _ (omega arith) (sym c.in_default.ensures)

pub returns : goal.returns
unfolding doubled_in path_of
returns c =
    let s = c.args.s.now in
    sym (sym (doubled-links c.args.n s.single s.rep s.link s.reach) ∙ c.loop-t.invariant ∙ first_end _ _ _ (omega arith))

pub returns-in_default : goal.returns-in_default
unfolding doubled_in path_of
returns-in_default c =
    let s = c.args.s.now in
    sym
    (sym (doubled-links c.args.n s.single s.rep s.link s.reach)
    ∙ c.loop-t.invariant
    ∙ first_next _ _ _ (omega arith) (sym c.in_default.ensures)
    ∙ first_end _ _ _ (omega arith))
