use Rattle.std.proofs.Common.{false, refl, arith}
use lib.ListN.{length-set}
use Rattle.between_search.specs.Tests.{opposed}
use Rattle.between_tests.specs.Tables.{literals_in}
use Rattle.between_tests.proofs.Laws.{made_next, made_all}
use Rattle.between_tests.proofs.opposed_table.Goals as goal

pub loop-i-init : goal.loop-i-init
loop-i-init c = (refl, λ j h. absurd (omega arith))

pub loop-i-preserved : goal.loop-i-preserved
loop-i-preserved c =
    let l = c.loop-i in (
      simp length-set l.invariant.0,
      made_next (opposed (literals_in c.args.query.now c.args.at c.args.count)) false l.table l.i _ l.invariant.0 (omega (arith, c.loop-i-test.true)) c.is_opposed.ensures l.invariant.1,
    )

pub returns : goal.returns
returns c = made_all (opposed (literals_in c.args.query.now c.args.at c.args.count)) false c.loop-i.table c.loop-i.i (omega arith) c.loop-i.invariant.1
