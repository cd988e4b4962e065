use Rattle.std.proofs.Common.{rules, ◌≡◌, eqb}
use Rattle.logic.specs.Search.{◌and◌}
use Rattle.logic.specs.Query.{sign_role}
use Rattle.refusals.specs.Numbers.{number_of}
use Rattle.byte_tests.specs.Meets.{meets}
use Rattle.byte_tests.proofs.sign_refused.Goals as goal

pub returns : goal.returns
unfolding ◌and◌ sign_role meets
returns c =
    let same : c.eq.result ≡ eqb 6 (number_of c.args.fault) = search rules in
    rw (same, c.sign_allowed-allowed.ensures)
