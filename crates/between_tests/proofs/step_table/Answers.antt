use Rattle.std.proofs.Common.{◌*◌, refl, arith}
use lib.ListN.{length-set}
use Rattle.between_search.specs.Tests.{steps}
use Rattle.between_search.specs.Search.{entry}
use Rattle.between_tests.proofs.Laws.{made_at, made_all}
use Rattle.between_tests.proofs.step_table.Goals as goal

pub loop-v-init : goal.loop-v-init
loop-v-init c = (refl, λ j h. absurd (omega arith))

pub loop-w-init : goal.loop-w-init
loop-w-init c = (c.loop-v.invariant.0, λ j h. c.loop-v.invariant.1 j (omega arith))

pub loop-w-preserved : goal.loop-w-preserved
loop-w-preserved c =
    let l = c.loop-w in (
      simp length-set l.invariant.0,
      made_at (steps (entry c.args.links.now)) 0 l.table c.loop-v.v l.w _ l.invariant.0 (omega (arith, c.loop-v-test.true)) (omega (arith, c.loop-w-test.true)) c.step_count.ensures.0 l.invariant.1,
    )

pub loop-v-preserved : goal.loop-v-preserved
loop-v-preserved c = (c.loop-w.invariant.0, λ j h. c.loop-w.invariant.1 j (omega (arith, c.loop-w-test.false)))

pub returns : goal.returns
returns c = made_all (steps (entry c.args.links.now)) 0 c.loop-v.table (6 * c.loop-v.v) (omega (arith, c.loop-v-test.false)) c.loop-v.invariant.1
