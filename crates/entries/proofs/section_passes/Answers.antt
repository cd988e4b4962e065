use Rattle.std.proofs.Common.{◌∙◌, arith}
use native.Mathlib.Nat.{sub-zero}
use Rattle.entries.specs.Entries.{width_of}
use Rattle.entries.proofs.Faults.{room_next, entry_end, entry_next, section_whole}
use Rattle.entries.proofs.section_passes.Goals as goal

pub loop-i-init : goal.loop-i-init
loop-i-init c = (rw (sub-zero c.args.count) c.requires, λ k. section_whole _ _ _ _ _ _)

pub loop-i-preserved : goal.loop-i-preserved
loop-i-preserved c = rw c.width-step.ensures (
  omega (arith, c.loop-i.invariant.0, room_next c.args.count c.loop-i.i (width_of c.args.kind) c.loop-i-test.true),
  λ k. c.loop-i.invariant.1 k ∙ entry_next k c.args.kind _ _ c.args.query.now _ _ c.loop-i-test.true
      (c.entry_passes.ensures c.if-not-entry_passes.false k),
)

pub returns : goal.returns
returns c h k = c.loop-i.invariant.1 k ∙ entry_end _ c.args.kind _ _ c.args.query.now _ _ c.loop-i-test.false
