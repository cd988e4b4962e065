-- Each turn closes the rows through one more term.
use Rattle.std.proofs.Common.{◌≡◌, arith}
use Rattle.closing.proofs.Rows.{passed_within, passed_kept, passed_onward, onward_all}
use Rattle.closing.proofs.pass_on.Goals as goal

pub loop-y-preserved : goal.loop-y-preserved
loop-y-preserved c =
    let i = c.loop-y.invariant in
    let passed = c.through.ensures.0 in record {
      long = c.through.ensures.1;
      within = λ alive link reach h. passed_within _ _ _ passed alive link reach (i.within alive link reach h);
      above = λ a b e. passed_kept _ _ _ passed a b (i.above a b e);
      onward = passed_onward _ _ _ passed i.onward;
    }

pub returns : goal.returns
returns c =
    let i = c.loop-y.invariant in
    let whole : c.loop-y.y ≡ 17 = omega arith in
    (i.within, i.above, onward_all _ (rw whole at i.onward), i.long)
