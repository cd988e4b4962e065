-- The checks in their order, and then the verdict.
use Rattle.std.proofs.Common.{ℕ, ◌<◌, sym, ap, ◌∙◌, subst}
use borrow.Author.Tests.{not-true, not-false, ltb-true, ltb-false}
use lib.ListN.{length}
use Rattle.lent.proofs.Writing.{blank_again, blank_long}
use Rattle.link_query.proofs.Accepted.{accepted_said}
use Rattle.call_limits.specs.Forms.{form_of}
use Rattle.form_checks.proofs.Laws.{laws_of}
use Rattle.prover.proofs.Answers.{room_of, verdict_order, verdict_query, verdict_room, verdict_walked}
use Rattle.prover.proofs.Demands.{report_whole}
use Rattle.prover.proofs.verdict_in.Goals as goal

pub returns-then-not-is_order : goal.returns-then-not-is_order
returns-then-not-is_order c =
    verdict_order (form_of c.args.three) (laws_of c.args.three) c.args.order.now c.args.query.now
    c.args.report.now _ (sym c.is_order.ensures ∙ c.if-not-is_order.true) c.clear.ensures

pub returns-in-Err : goal.returns-in-Err
returns-in-Err c =
    let three = c.args.three in
    rw c.number.ensures
    (verdict_query (form_of three) (laws_of three) c.args.order.now c.args.query.now c.args.report.now _ _ _
    (sym c.is_order.ensures ∙ c.if-not-is_order.false) c.in-Err.ensures c.clear.ensures)

pub returns-then-lacks_room : goal.returns-then-lacks_room
returns-then-lacks_room c =
    let three = c.args.three in
    let e = blank_long _ (length c.args.report.now) c.clear.ensures in
    verdict_room (form_of three) (laws_of three) c.args.order.now c.args.query.now c.args.report.now _ _
    (sym c.is_order.ensures ∙ c.if-not-is_order.false) c.in-Ok.ensures
    (subst (λ (n : ℕ). n < (form_of three).room) e (ltb-true _ _ (sym c.lacks_room.ensures ∙ c.if-lacks_room.true))) c.clear.ensures

pub decide-requires : goal.decide-requires
decide-requires c =
    let three = c.args.three in
    let h = c.in-Ok.ensures in (
      h.within,
      accepted_said (form_of three) (laws_of three) _ _ h,
      sym c.is_order.ensures ∙ c.if-not-is_order.false,
      room_of (form_of three) (laws_of three) _ _ _ h (ltb-false _ _ (sym c.lacks_room.ensures ∙ c.if-lacks_room.false)),
      blank_again _ (length c.args.report.now) c.clear.ensures,
    )

pub returns-else-lacks_room : goal.returns-else-lacks_room
returns-else-lacks_room c =
    let three = c.args.three in
    verdict_walked (form_of three) (laws_of three) c.args.order.now c.args.query.now c.args.report.now _ _ _ _
    (sym c.is_order.ensures ∙ c.if-not-is_order.false) c.in-Ok.ensures (blank_long _ (length c.args.report.now) c.clear.ensures)
    (ltb-false _ _ (sym c.lacks_room.ensures ∙ c.if-lacks_room.false)) c.decide.ensures
