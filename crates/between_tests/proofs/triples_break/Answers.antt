use Rattle.std.proofs.Common.{sym, ap, ◌∙◌}
use Rattle.logic.specs.Search.{any}
use Rattle.query.proofs.Literals.{any-listed_here, any-listed_next, any-listed_end}
use Rattle.between_tests.proofs.Triples.{triples_are}
use Rattle.between_tests.proofs.triples_break.Goals as goal

pub loop-i-init : goal.loop-i-init
loop-i-init c link s = ap (any _) (triples_are _ _ c.requires.0)

pub returns-then-triple_breaks : goal.returns-then-triple_breaks
returns-then-triple_breaks c link s =
    sym (c.loop-i.invariant link s ∙ any-listed_here _ _ _ _ c.loop-i-test.true (sym (c.triple_breaks.ensures link s) ∙ c.if-triple_breaks.true))

pub loop-i-preserved : goal.loop-i-preserved
loop-i-preserved c link s =
    c.loop-i.invariant link s ∙ any-listed_next _ _ _ _ c.loop-i-test.true (sym (c.triple_breaks.ensures link s) ∙ c.if-triple_breaks.false)

pub returns : goal.returns
returns c link s = sym (c.loop-i.invariant link s ∙ any-listed_end _ _ _ _ c.loop-i-test.false)
