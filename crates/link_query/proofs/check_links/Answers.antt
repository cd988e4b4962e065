use Rattle.std.proofs.lemmas.Result.{err_from_is_err_and}
use Rattle.link_query.proofs.Checks.{three_form, front_refused, link_checked, byte_refused, byte_passed}
use Rattle.link_query.proofs.check_links.Goals as goal

pub returns-in_err-full : goal.returns-in_err-full
returns-in_err-full c =
    let p = err_from_is_err_and c.from_residual.result c.from_residual.ensures.1 in
    rw (p.1, p.2) (λ i q. front_refused _ i q _ _ (rw three_form c.in_err-full.ensures))

pub returns-in_err-check_link_bytes : goal.returns-in_err-check_link_bytes
returns-in_err-check_link_bytes c =
    let laid = c.in_ok-full.ensures in
    let residual = c.from_residual-in_err-check_link_bytes in
    let p = err_from_is_err_and residual.result residual.ensures.1 in
    rw (p.1, p.2) (link_checked _ _ laid.0 laid.1 laid.2 _ c.in_err-check_link_bytes.ensures)

pub returns-in_err-checked : goal.returns-in_err-checked
returns-in_err-checked c =
    let laid = c.in_ok-full.ensures in
    let residual = c.from_residual-in_err-checked in
    let p = err_from_is_err_and residual.result residual.ensures.1 in
    rw (p.1, p.2)
    (byte_refused _ _ laid.0 laid.1 laid.2 _ c.in_ok-check_link_bytes.ensures (c.in_err-checked.ensures 0 26 laid.1))

pub returns : goal.returns
returns c =
    let laid = c.in_ok-full.ensures in
    byte_passed _ _ laid.0 laid.1 laid.2 _ c.in_ok-check_link_bytes.ensures (c.in_ok-checked.ensures 0 26 laid.1)
