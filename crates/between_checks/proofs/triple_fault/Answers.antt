use Rattle.std.proofs.Common.{ℕ, ◌≡◌, ◌+◌, ◌-◌, sym, ◌∙◌, arith}
use Rattle.logic.specs.Query.{term_role}
use Rattle.byte_tests.specs.Meets.{counted_role}
use Rattle.entries.proofs.Faults.{tested, fault_here, fault_next, fault_end}
use Rattle.between_checks.proofs.Merged.{terms_end, terms_next}
use Rattle.between_checks.proofs.triple_fault.Goals as goal

three : (at : ℕ) → at + 4 - (at + 1) ≡ 3
three at = omega arith

pub returns-then-sign_refused : goal.returns-then-sign_refused
returns-then-sign_refused c = sym (fault_here _ c.args.query.now _ _ _ (omega arith) (tested _ _ c.sign_refused.ensures c.byte_at.ensures c.if-sign_refused.true))

pub loop-place-init : goal.loop-place-init
loop-place-init c =
    rw (three c.args.at)
    (fault_next _ c.args.query.now _ _ _ (omega arith) (tested _ _ c.sign_refused.ensures c.byte_at.ensures c.if-sign_refused.false))

pub returns-then-number_refused : goal.returns-then-number_refused
unfolding term_role counted_role
returns-then-number_refused c =
    sym
    (c.loop-place.invariant
    ∙ rw (terms_next c.args.n (c.args.at + 4) c.loop-place.place c.loop-place-test.true)
    (fault_here _ c.args.query.now _ _ _ (omega arith) (tested _ _ c.number_refused.ensures c.byte_at-in-loop-place.ensures c.if-number_refused.true)))

pub loop-place-preserved : goal.loop-place-preserved
unfolding term_role counted_role
loop-place-preserved c =
    c.loop-place.invariant
    ∙ rw (terms_next c.args.n (c.args.at + 4) c.loop-place.place c.loop-place-test.true)
    (fault_next _ c.args.query.now _ _ _ (omega arith) (tested _ _ c.number_refused.ensures c.byte_at-in-loop-place.ensures c.if-number_refused.false))

pub returns : goal.returns
returns c = sym (c.loop-place.invariant ∙ rw (terms_end c.args.n (c.args.at + 4) c.loop-place.place c.loop-place-test.false) (fault_end _ _ _))
