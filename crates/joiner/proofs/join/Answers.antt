-- The checks in their order, and then the joining.
use Rattle.std.proofs.Common.{length}
use Rattle.std.proofs.lemmas.Result.{err_from_is_err_and}
use Rattle.lent.proofs.Writing.{blank_again, blank_long}
use Rattle.joiner.proofs.Answers as law
use Rattle.joiner.proofs.Joins as call
use Rattle.joiner.proofs.join.Goals as goal

pub returns-in_err-f : goal.returns-in_err-f
returns-in_err-f c =
    let p = err_from_is_err_and c.from_residual.result c.from_residual.ensures.1 in
    rw (p.1, p.2)
    (call.both_refused c.args.first.now c.args.second.now c.args.pairs.now (length c.args.out.now) _ _ c.in_err-f.ensures c.clear.ensures)

pub join_checked-requires : goal.join_checked-requires
join_checked-requires c =
    (law.passing _ _ c.in_ok-f.ensures.0, law.passing _ _ c.in_ok-f.ensures.1, blank_again _ (length c.args.out.now) c.clear.ensures)

pub returns : goal.returns
returns c =
    call.joined_does c.args.first.now c.args.second.now c.args.pairs.now (length c.args.out.now) _ c.in_ok-f.ensures.0 c.in_ok-f.ensures.1
    (blank_long _ (length c.args.out.now) c.clear.ensures) c.join_checked.ensures
