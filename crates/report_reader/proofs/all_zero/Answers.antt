use Rattle.std.proofs.Common.{sym, ◌∙◌}
use borrow.Author.Tests.{eq-eqb, ne_eqb}
use Rattle.rows.proofs.Loops.{all_end, all_fails, all_next}
use Rattle.report_reader.proofs.all_zero.Goals as goal

pub returns-then-report-i-ne0 : goal.returns-then-report-i-ne0
returns-then-report-i-ne0 c = sym (all_fails _ _ _ c.loop-i-test.true (ne_eqb _ 0 c.if-report-i-ne0.true)) ∙ c.loop-i.invariant

pub loop-i-preserved : goal.loop-i-preserved
loop-i-preserved c = sym (all_next _ _ _ c.loop-i-test.true (eq-eqb _ 0 c.if-report-i-ne0.false)) ∙ c.loop-i.invariant

pub returns : goal.returns
returns c = sym (all_end _ _ _ c.loop-i-test.false) ∙ c.loop-i.invariant
