-- The checks in their order, and then the rewriting.
use Rattle.std.proofs.Common.{length}
use Rattle.std.proofs.lemmas.Result.{err_from_is_err_and}
use Rattle.rewriting.specs.Call.{rewrite_call}
use Rattle.lent.proofs.Writing.{blank_again, blank_long}
use Rattle.query_checks.proofs.Checks.{asked_err, asked_ok}
use Rattle.rewriter.proofs.Answers as law
use Rattle.rewriter.proofs.rewrite.Goals as goal

pub returns-in_err-full : goal.returns-in_err-full
returns-in_err-full c =
    let p = err_from_is_err_and c.from_residual.result c.from_residual.ensures.1 in
    rw (p.1, p.2) (law.refuses c.args.query.now (length c.args.out.now) (asked_err _ _ c.number.ensures _ c.in_err-full.ensures) _ c.clear.ensures)

pub rewrite_checked-requires : goal.rewrite_checked-requires
rewrite_checked-requires c = (law.passing _ _ (asked_ok _ _ c.number.ensures _ c.in_ok-full.ensures), blank_again _ (length c.args.out.now) c.clear.ensures)

pub returns : goal.returns
returns c = law.moved (rewrite_call c.args.query.now) (blank_long _ (length c.args.out.now) c.clear.ensures) c.rewrite_checked.ensures
