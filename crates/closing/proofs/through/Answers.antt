-- Each turn adds to a row that has y what y reaches.
use Rattle.std.proofs.Common.{◌≡◌, arith}
use Rattle.std.proofs.Math.ListN.{length-set}
use Rattle.closing.proofs.Rows.{through_more, through_left, through_all, through_none}
use Rattle.closing.proofs.through.Goals as goal

pub returns-then-far-eq0 : goal.returns-then-far-eq0
returns-then-far-eq0 c = (through_none _ _ (omega arith) c.if-far-eq0.true, c.requires.1)

pub loop-row-preserved : goal.loop-row-preserved
loop-row-preserved c =
    let i = c.loop-row.invariant in record {
      long = simp length-set i.long;
      passed = through_more _ _ _ _ _ i.long (omega arith) (omega arith) i.passed i.left c.passed_on.ensures;
      left = through_left _ _ _ _ i.left;
    }

pub returns : goal.returns
returns c =
    let i = c.loop-row.invariant in
    let whole : c.loop-row.row-index ≡ 17 = omega arith in
    (through_all _ _ _ (rw whole at i.passed), i.long)
