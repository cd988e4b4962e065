use Rattle.std.proofs.Common.{length-set, ◌∙◌, sym, refl, arith, rules}
use Rattle.tally.proofs.Counts.{fits-here, fits_not, fits-end, summed_none, summed_more, summed_all}
use Rattle.tally.proofs.sums.Goals as goal

pub loop-k-init : goal.loop-k-init
loop-k-init c = (search rules, refl, summed_none _ _ _)

pub returns-in_err-next : goal.returns-in_err-next
returns-in_err-next c =
    let e = sym (fits_not c.args.counts c.args.more c.loop-k.k (omega arith) (omega arith) (omega (arith, c.in_err-next.ensures))) ∙ c.loop-k.invariant.1 in
    search rules

pub loop-k-preserved : goal.loop-k-preserved
loop-k-preserved c = (
  simp length-set c.loop-k.invariant.0,
  sym (fits-here c.args.counts c.args.more c.loop-k.k (omega arith) (omega arith) (omega (arith, c.in_ok-next.ensures))) ∙ c.loop-k.invariant.1,
  summed_more c.args.counts c.args.more c.loop-k.next c.loop-k.k _ (omega arith) (search rules) c.loop-k.invariant.2,
)

pub returns : goal.returns
returns c = (
  sym c.loop-k.invariant.1 ∙ fits-end c.args.counts c.args.more c.loop-k.k (omega arith),
  summed_all c.args.counts c.args.more c.loop-k.next c.loop-k.k (omega arith) (omega arith) c.loop-k.invariant.2,
)
