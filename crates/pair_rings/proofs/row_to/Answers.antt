-- After j steps back the marks are what j pairs lead from.
use Rattle.std.proofs.Common.{◌≡◌, arith}
use Rattle.pair_rings.proofs.Turns.{row-start, row_turn}
use Rattle.pair_rings.proofs.row_to.Goals as goal

pub loop-j-init : goal.loop-j-init
loop-j-init c = row-start c.args.sheet.now c.args.z c.requires.2

pub loop-j-preserved : goal.loop-j-preserved
loop-j-preserved c =
    row_turn c.args.sheet.now c.args.z c.loop-j._j c.loop-j.row c.step_back-row.result c.requires.0 c.requires.1 c.loop-j.invariant c.step_back-row.ensures

pub returns : goal.returns
returns c = let same : c.loop-j._j ≡ c.args.k = omega arith in rw (← same) c.loop-j.invariant
