use Rattle.std.proofs.Common.{Bool, sym, subst}
use Rattle.link_query.specs.Answers.{CheckedBy}
use Rattle.link_query.proofs.Accepted.{one_checked}
use Rattle.call_limits.specs.Forms.{form_of}
use Rattle.form_checks.proofs.checked.Goals as goal

pub returns-then-three : goal.returns-then-three
returns-then-three c = subst (λ (b : Bool). CheckedBy (form_of b) c.check_links.result c.args.query.now) (sym c.if-three.true) c.check_links.ensures

pub returns : goal.returns
returns c =
    subst (λ (b : Bool). CheckedBy (form_of b) c.check.result c.args.query.now) (sym c.if-three.false)
    (one_checked c.check.result c.args.query.now c.check.ensures)
