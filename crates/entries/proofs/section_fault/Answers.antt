use Rattle.std.proofs.Common.{sym, ◌∙◌, arith}
use native.Mathlib.Nat.{sub-zero}
use Rattle.entries.specs.Entries.{width_of}
use Rattle.entries.proofs.Faults.{room_next, entry_end, entry_here, entry_next, section_whole, section_free}
use Rattle.entries.proofs.section_fault.Goals as goal

pub returns-then-not-concerned : goal.returns-then-not-concerned
returns-then-not-concerned c = sym (section_free _ _ _ _ _ _ (sym c.concerned.ensures ∙ c.if-not-concerned.true))

pub loop-i-init : goal.loop-i-init
loop-i-init c = (rw (sub-zero c.args.count) c.requires, section_whole _ _ _ _ _ _)

pub returns-in-Some : goal.returns-in-Some
returns-in-Some c =
    sym (c.loop-i.invariant.1 ∙ entry_here _ c.args.kind _ _ c.args.query.now _ _ _ c.loop-i-test.true (sym c.in-Some.ensures))

pub loop-i-preserved : goal.loop-i-preserved
loop-i-preserved c = rw c.width-step.ensures (
  omega (arith, c.loop-i.invariant.0, room_next c.args.count c.loop-i.i (width_of c.args.kind) c.loop-i-test.true),
  c.loop-i.invariant.1 ∙ entry_next _ c.args.kind _ _ c.args.query.now _ _ c.loop-i-test.true (sym c.in_default.ensures),
)

pub returns : goal.returns
returns c = sym (c.loop-i.invariant.1 ∙ entry_end _ c.args.kind _ _ c.args.query.now _ _ c.loop-i-test.false)
