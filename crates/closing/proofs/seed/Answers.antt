-- Each turn adds to a row what REFLEX and TRANS1 give.
use Rattle.std.proofs.Common.{◌≡◌, arith}
use Rattle.std.proofs.Math.ListN.{length-set}
use Rattle.closing.proofs.Rows.{within_first, within_more, above_more, seed_follows, seeded_none, seeded_more, seeded_all}
use Rattle.closing.proofs.seed.Goals as goal

pub loop-a-init : goal.loop-a-init
loop-a-init c = record {
  long = c.requires;
  within = within_first _ _ _;
  above = λ a b e. e;
  seeded = seeded_none _ _ _;
}

pub loop-a-preserved : goal.loop-a-preserved
loop-a-preserved c =
    let i = c.loop-a.invariant in record {
      long = simp length-set i.long;
      within = within_more _ i.long _ _ (omega arith) _ _ _ i.within (seed_follows _ _ _ _ _ (omega arith) c.only.ensures);
      above = above_more _ i.long _ _ (omega arith) _ i.above;
      seeded = seeded_more _ _ _ _ _ i.long (omega arith) c.only.ensures i.seeded;
    }

pub returns : goal.returns
returns c =
    let i = c.loop-a.invariant in
    let whole : c.loop-a.a ≡ 17 = omega arith in
    (i.within, i.above, seeded_all _ _ _ (rw whole at i.seeded), i.long)
