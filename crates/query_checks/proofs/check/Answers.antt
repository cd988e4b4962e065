use Rattle.std.proofs.lemmas.Result.{err_from_is_err_and}
use Rattle.logic.specs.Query.{sections, layout_of, decode}
use Rattle.logic.specs.Calls.{query_checks}
use Rattle.theory.proofs.Query.Bytes.{layout_numbers, retired_number}
use Rattle.query_checks.proofs.Checks.{asked_err, asked_ok}
use Rattle.query_checks.proofs.check.Goals as goal

pub returns-in_err-full : goal.returns-in_err-full
unfolding query_checks sections layout_numbers
returns-in_err-full c =
    let p = err_from_is_err_and c.from_residual.result c.from_residual.ensures.1 in
    rw (p.1, p.2) (asked_err _ _ c.number.ensures _ c.in_err-full.ensures retired_number)

pub returns : goal.returns
unfolding query_checks sections decode layout_of
returns c = let h = asked_ok _ _ c.number.ensures _ c.in_ok-full.ensures in (h.0, h.1.four)
