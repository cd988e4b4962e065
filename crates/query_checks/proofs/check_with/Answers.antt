use Rattle.std.proofs.lemmas.Result.{err_from_is_err_and}
use Rattle.query_checks.proofs.Checks.{five_refused_as, five_checked}
use Rattle.query_checks.proofs.check_with.Goals as goal

pub returns-in_err-full : goal.returns-in_err-full
returns-in_err-full c =
    let p = err_from_is_err_and c.from_residual.result c.from_residual.ensures.1 in
    rw (p.1, p.2) (five_refused_as _ _ _ _ _ _ c.excess_fault.ensures c.in_err-full.ensures)

pub returns : goal.returns
returns c =
    let laid = c.in_ok-full.ensures in
    five_checked c.check_bytes.result _ _ _ c.args.excess laid.0 laid.1 laid.2 (c.check_bytes.ensures _ _ laid.1)
