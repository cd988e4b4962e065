use Rattle.std.proofs.lemmas.Result.{err_from_is_err_and}
use Rattle.between_checks.proofs.Merged.{sixth-met, five-met, five_refused, five_accepted, all_passed}
use Rattle.between_checks.proofs.check_bytes.Goals as goal

pub returns-in_err-sixth_below-in-Err : goal.returns-in_err-sixth_below-in-Err
returns-in_err-sixth_below-in-Err c =
    let p = err_from_is_err_and c.from_residual.result c.from_residual.ensures.1 in
    rw (p.1, p.2)
    (sixth-met _ _ _ _ c.requires c.byte_at-n.ensures _ _ _
    (five_refused _ _ _ _ c.requires c.byte_at-n.ensures _ _ c.in-Err.ensures).none_before
    (rw c.number.ensures at c.in_err-sixth_below-in-Err.ensures))

pub returns-in_ok-sixth_below-in-Err : goal.returns-in_ok-sixth_below-in-Err
returns-in_ok-sixth_below-in-Err c =
    five-met _ _ _ _ c.requires c.byte_at-n.ensures _ _
    (five_refused _ _ _ _ c.requires c.byte_at-n.ensures _ _ c.in-Err.ensures)
    (rw c.number.ensures at c.in_ok-sixth_below-in-Err.ensures)

pub returns-in_err-sixth_below-in-Ok : goal.returns-in_err-sixth_below-in-Ok
returns-in_err-sixth_below-in-Ok c =
    let residual = c.from_residual-in_err-sixth_below-in-Ok in
    let p = err_from_is_err_and residual.result residual.ensures.1 in
    rw (p.1, p.2)
    (sixth-met _ _ _ _ c.requires c.byte_at-n.ensures _ _ _
    (five_accepted _ _ _ _ c.requires c.byte_at-n.ensures _ c.in-Ok.ensures)
    c.in_err-sixth_below-in-Ok.ensures)

pub returns-in_ok-sixth_below-in-Ok : goal.returns-in_ok-sixth_below-in-Ok
returns-in_ok-sixth_below-in-Ok c =
    all_passed _ _ _ _ c.requires c.byte_at-n.ensures _ c.in-Ok.ensures c.in_ok-sixth_below-in-Ok.ensures
