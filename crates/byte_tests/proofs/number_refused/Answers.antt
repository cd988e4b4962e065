use Rattle.std.proofs.Common.{rules, ◌≡◌, eqb}
use Rattle.logic.specs.Search.{◌and◌}
use Rattle.refusals.specs.Numbers.{number_of}
use Rattle.byte_tests.specs.Meets.{counted_role, meets}
use Rattle.byte_tests.proofs.number_refused.Goals as goal

pub returns : goal.returns
unfolding ◌and◌ counted_role meets
returns c =
    let same : c.eq.result ≡ eqb (number_of c.args.own) (number_of c.args.fault) = search rules in
    rw (same, c.number_allowed-allowed.ensures)
