-- No room, or the rewritten query.
use Rattle.std.proofs.Common.{length, arith}
use Rattle.link_rewriter.proofs.Written.{place_fits, bytes_low}
use Rattle.link_rewriter.proofs.Answers as law
use Rattle.link_rewriter.proofs.rewrite_checked.Goals as goal

pub overflow_add-query : goal.overflow_add-query
overflow_add-query c = omega (arith, bytes_low c.args.l c.args.query.now c.requires.0 c.requires.1, c.requires.0.terms_within)

pub overflow_add-query-2 : goal.overflow_add-query-2
overflow_add-query-2 c =
    omega (arith, bytes_low c.args.l c.args.query.now c.requires.0 c.requires.1, c.requires.0.terms_within, c.requires.0.reach_within)

pub returns-then-out-query : goal.returns-then-out-query
returns-then-out-query c =
    rw c.at.ensures (law.short c.args.l c.args.query.now c.requires.0 c.requires.1 (length c.args.out.now) c.if-out-query.true _ c.requires.2)

pub put_query-length-requires : goal.put_query-length-requires
put_query-length-requires c = (
  c.requires.0.terms_within,
  omega arith,
  place_fits c.args.l c.args.query.now c.requires.0 c.requires.1,
  bytes_low c.args.l c.args.query.now c.requires.0 c.requires.1,
  c.requires.0.reach_within,
)

pub returns : goal.returns
returns c =
    law.done c.args.l c.args.query.now c.requires.0 c.requires.1 (length c.args.out.now) c.if-out-query.false _ _ _
    c.requires.2 c.put_query-length.ensures
