-- The checks in their order, and then the rewriting.
use Rattle.std.proofs.Common.{length}
use Rattle.std.proofs.lemmas.Result.{err_from_is_err_and}
use Rattle.query_checks.proofs.Checks.{checked-accepts}
use Rattle.rewriter.proofs.Answers.{moved}
use Rattle.link_rewriting.specs.Call.{links_rewrite_call}
use Rattle.lent.proofs.Writing.{blank_again, blank_long}
use Rattle.link_rewriter.proofs.Answers as law
use Rattle.link_rewriter.proofs.rewrite.Goals as goal

pub returns-in_err-l : goal.returns-in_err-l
returns-in_err-l c =
    let p = err_from_is_err_and c.from_residual.result c.from_residual.ensures.1 in
    rw (p.1, p.2) (law.refuses c.args.query.now (length c.args.out.now) c.in_err-l.ensures _ c.clear.ensures)

pub rewrite_checked-requires : goal.rewrite_checked-requires
rewrite_checked-requires c = (
  c.in_ok-l.ensures.1,
  checked-accepts _ c.args.query.now c.in_ok-l.ensures,
  blank_again _ (length c.args.out.now) c.clear.ensures,
)

pub returns : goal.returns
returns c = moved (links_rewrite_call c.args.query.now) (blank_long _ (length c.args.out.now) c.clear.ensures) c.rewrite_checked.ensures
