use Rattle.std.proofs.Common.{sym, ◌∙◌, arith}
use native.Mathlib.Nat.{sub-zero}
use Rattle.between_checks.proofs.Merged.{sixth_end, sixth-here, sixth_next, sixth_whole}
use Rattle.between_checks.proofs.sixth_fault.Goals as goal

pub loop-init : goal.loop-init
loop-init c = (rw (sub-zero c.args.count) c.requires, sixth_whole _ _ _ _ _)

pub returns-in-Some : goal.returns-in-Some
returns-in-Some c =
    sym (c.loop.invariant.1 ∙ sixth-here _ _ _ c.args.query.now _ _ _ c.loop-test.true (sym c.in-Some.ensures))

pub loop-preserved : goal.loop-preserved
loop-preserved c = (
  omega (arith, c.loop.invariant.0, c.loop-test.true),
  c.loop.invariant.1 ∙ sixth_next _ _ _ c.args.query.now _ _ c.loop-test.true (sym c.in_default.ensures),
)

pub returns : goal.returns
returns c = sym (c.loop.invariant.1 ∙ sixth_end _ _ _ c.args.query.now _ _ c.loop-test.false)
