-- The checks first, then the shape, and then the lines.
use Rattle.std.proofs.Common.{sym, ◌∙◌}
use Rattle.std.proofs.lemmas.Result.{err_from_is_err_and}
use Rattle.call_limits.specs.Forms.{form_of}
use Rattle.link_query.proofs.Accepted.{accepted_said}
use Rattle.form_checks.proofs.Laws.{laws_of}
use Rattle.checker.proofs.Answered.{call_refused, call_misshapen, call_judged}
use Rattle.checker.proofs.check_in.Goals as goal

pub returns-in_err-layout : goal.returns-in_err-layout
returns-in_err-layout c =
    let p = err_from_is_err_and c.from_residual.result c.from_residual.ensures.1 in
    rw (p.1, p.2) (call_refused (form_of c.args.three) _ _ _ c.in_err-layout.ensures)

pub returns-then-not-is_shaped : goal.returns-then-not-is_shaped
returns-then-not-is_shaped c =
    rw c.at.ensures (call_misshapen (form_of c.args.three) _ _ _ c.in_ok-layout.ensures (sym c.is_shaped.ensures ∙ c.if-not-is_shaped.true))

pub judge-requires : goal.judge-requires
judge-requires c =
    let h = c.in_ok-layout.ensures in
    (h.within, accepted_said (form_of c.args.three) (laws_of c.args.three) _ _ h, sym c.is_shaped.ensures ∙ c.if-not-is_shaped.false)

pub returns : goal.returns
returns c =
    call_judged (form_of c.args.three) _ _ _ c.in_ok-layout.ensures (sym c.is_shaped.ensures ∙ c.if-not-is_shaped.false) _ c.judge.ensures
