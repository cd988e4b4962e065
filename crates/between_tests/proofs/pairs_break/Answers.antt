use Rattle.std.proofs.Common.{sym, ◌∙◌}
use Rattle.query.proofs.Literals.{any-listed_here, any-listed_next, any-listed_end}
use Rattle.between_tests.proofs.Laws.{literals_begin}
use Rattle.between_tests.proofs.pairs_break.Goals as goal

pub loop-i-init : goal.loop-i-init
loop-i-init c link s = literals_begin _ _ _ c.requires.0 _

pub returns-then-pair_breaks : goal.returns-then-pair_breaks
returns-then-pair_breaks c link s =
    sym (c.loop-i.invariant link s ∙ any-listed_here _ _ _ _ c.loop-i-test.true (sym (c.pair_breaks.ensures link s) ∙ c.if-pair_breaks.true))

pub loop-i-preserved : goal.loop-i-preserved
loop-i-preserved c link s =
    c.loop-i.invariant link s ∙ any-listed_next _ _ _ _ c.loop-i-test.true (sym (c.pair_breaks.ensures link s) ∙ c.if-pair_breaks.false)

pub returns : goal.returns
returns c link s = sym (c.loop-i.invariant link s ∙ any-listed_end _ _ _ _ c.loop-i-test.false)
