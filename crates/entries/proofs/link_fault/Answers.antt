use Rattle.std.proofs.Common.{refl, sym, ◌∙◌, arith}
use native.Mathlib.Nat.{sub-zero}
use Rattle.entries.specs.Links.{linked_width}
use Rattle.entries.proofs.Faults.{room_next}
use Rattle.entries.proofs.Links.{links_end, links_here, links_next}
use Rattle.entries.proofs.link_fault.Goals as goal

pub loop-init : goal.loop-init
loop-init c = rw (sub-zero c.args.count) (c.requires, refl)

pub returns-in-Some : goal.returns-in-Some
returns-in-Some c =
    sym (c.loop.invariant.1 ∙ links_here c.args.linked c.args.query.now _ _ _ _ c.loop-test.true (sym c.in-Some.ensures))

pub loop-preserved : goal.loop-preserved
loop-preserved c = rw c.linked_width-step.ensures (
  omega (arith, c.loop.invariant.0, room_next c.args.count c.loop.counter (linked_width c.args.linked) c.loop-test.true),
  c.loop.invariant.1 ∙ links_next c.args.linked c.args.query.now _ _ _ c.loop-test.true (sym c.in_default.ensures),
)

pub returns : goal.returns
returns c = sym (c.loop.invariant.1 ∙ links_end c.args.linked c.args.query.now _ _ _ c.loop-test.false)
