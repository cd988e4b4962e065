-- The checks in their order, and then the derivation.
use Rattle.std.proofs.Common.{ℕ, sym, ap, ◌∙◌, subst}
use borrow.Author.Tests.{not-true, not-false}
use lib.ListN.{length}
use Rattle.link_query.proofs.Accepted.{accepted_said}
use Rattle.call_limits.specs.Forms.{form_of}
use Rattle.theory.proofs.Calls.DerivationCall.{derivation_whole}
use Rattle.lent.proofs.Writing.{blank_again, blank_long}
use Rattle.form_checks.proofs.Laws.{laws_of}
use Rattle.prover.proofs.Answers.{derivation_order, derivation_query, derivation_walked}
use Rattle.prover.proofs.derivation_in.Goals as goal

pub returns-then-not-is_order : goal.returns-then-not-is_order
returns-then-not-is_order c =
    derivation_order (form_of c.args.three) (laws_of c.args.three) c.args.order.now c.args.query.now
    c.args.buffer.now _ (sym c.is_order.ensures ∙ c.if-not-is_order.true) c.clear.ensures

pub returns-in-Err : goal.returns-in-Err
returns-in-Err c =
    let three = c.args.three in
    rw c.number.ensures
    (derivation_query (form_of three) (laws_of three) c.args.order.now c.args.query.now c.args.buffer.now _ _ _
    (sym c.is_order.ensures ∙ c.if-not-is_order.false) c.in-Err.ensures c.clear.ensures)

pub derive-requires : goal.derive-requires
derive-requires c =
    let three = c.args.three in
    let h = c.in-Ok.ensures in (
      h.within,
      accepted_said (form_of three) (laws_of three) _ _ h,
      sym c.is_order.ensures ∙ c.if-not-is_order.false,
      blank_again _ (length c.args.buffer.now) c.clear.ensures,
    )

pub returns-in-Ok : goal.returns-in-Ok
returns-in-Ok c =
    let three = c.args.three in
    derivation_walked (form_of three) (laws_of three) c.args.order.now c.args.query.now c.args.buffer.now _ _ _ _
    (sym c.is_order.ensures ∙ c.if-not-is_order.false) c.in-Ok.ensures (blank_long _ (length c.args.buffer.now) c.clear.ensures) c.derive.ensures
