use Rattle.std.proofs.lemmas.Result.{err_from_is_err_and}
use Rattle.between_checks.proofs.Merged.{sixth-counted, refused_sixth}
use Rattle.between_checks.proofs.check_sixth.Goals as goal

pub read_sixth-requires : goal.read_sixth-requires
read_sixth-requires c = sixth-counted _ _ c.requires

pub check_bytes-requires : goal.check_bytes-requires
check_bytes-requires c =
    let r = c.in_ok-count.ensures in
    record { follows = c.requires; counted = sixth-counted _ _ c.requires; count_is = r.0; within = r.1; ends = r.2 }

pub returns-in_err-count : goal.returns-in_err-count
returns-in_err-count c =
    let p = err_from_is_err_and c.from_residual.result c.from_residual.ensures.1 in
    rw (p.1, p.2) (refused_sixth _ _ _ _ c.requires c.in_err-count.ensures)
