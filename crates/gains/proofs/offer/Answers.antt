-- The two scores are compared.
use Rattle.std.proofs.Common.{sym}
use borrow.Author.Tests.{lt-ltb, le-ltb}
use Rattle.theory.proofs.Basics.Compare.{cond-true, cond-false}
use Rattle.gains.specs.Keeps.{better}
use Rattle.gains.proofs.offer.Goals as goal

pub returns-then-score-b : goal.returns-then-score-b
unfolding better
returns-then-score-b c = rw c.in-Some.is (sym (cond-false _ _ (le-ltb _ _ c.if-score-b.true)))

pub returns-else-score-b : goal.returns-else-score-b
unfolding better
returns-else-score-b c = rw c.in-Some.is (sym (cond-true _ _ (lt-ltb _ _ c.if-score-b.false)))

pub returns-in_default : goal.returns-in_default
unfolding better
returns-in_default c = rw c.in_default.is
