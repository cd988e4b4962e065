use Rattle.std.proofs.Common.{rules, arith, refl, ap, is_some}
use Rattle.sharing.proofs.Loops.{gone_none, gone_more, ran_last, never_more}
use Rattle.ruleshares.proofs.run.Goals as goal

pub loop-before-init : goal.loop-before-init
loop-before-init g c = (omega arith, c.requires.0, c.requires.1, gone_none c.new-tally.ensures refl)

pub returns-in_default : goal.returns-in_default
returns-in_default g c = ran_last c.round-next.ensures.round c.loop-before.invariant.3 (ap is_some c.in_default.is)

pub loop-before-preserved : goal.loop-before-preserved
loop-before-preserved g c = (
  rw c.in-Some.is at c.round-next.ensures.room,
  search rules,
  search rules,
  rw c.in-Some.is at (gone_more c.round-next.ensures.round c.loop-before.invariant.3 (ap is_some c.in-Some.is)),
)

pub returns : goal.returns
returns g c = never_more c.loop-before.invariant.3 (omega (arith, c.loop-before-test.false))
