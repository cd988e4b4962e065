use Rattle.query_checks.proofs.Checks.{is_three}
use Rattle.query_checks.proofs.excess_fault.Goals as goal

pub returns : goal.returns
returns c = is_three c.args.number c.if-number-eq2.false c.if-number-eq4.false c.if-number-eq26.false
