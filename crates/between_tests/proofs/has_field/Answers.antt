use Rattle.std.proofs.Common.{sym, ◌∙◌}
use Rattle.query.proofs.Literals.{any-listed_here, any-listed_next, any-listed_end}
use Rattle.between_tests.proofs.Laws.{field_begin}
use Rattle.between_tests.proofs.has_field.Goals as goal

pub loop-i-init : goal.loop-i-init
loop-i-init c = field_begin _ _ _ c.requires _ _ _

pub returns-then-says_field : goal.returns-then-says_field
returns-then-says_field c = sym (c.loop-i.invariant ∙ any-listed_here _ _ _ _ c.loop-i-test.true (sym c.says_field.ensures ∙ c.if-says_field.true))

pub loop-i-preserved : goal.loop-i-preserved
loop-i-preserved c = c.loop-i.invariant ∙ any-listed_next _ _ _ _ c.loop-i-test.true (sym c.says_field.ensures ∙ c.if-says_field.false)

pub returns : goal.returns
returns c = sym (c.loop-i.invariant ∙ any-listed_end _ _ _ _ c.loop-i-test.false)
