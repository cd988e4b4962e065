-- What is placed and what is left to place make the whole.
use Rattle.std.proofs.Common.{refl, sym, ◌∙◌, arith, length-set}
use Rattle.precedence.proofs.Turns.{grow_stuck, grow-placed, grow_whole}
use Rattle.precedence.proofs.place_all.Goals as goal

pub loop-n-init : goal.loop-n-init
loop-n-init c = (refl, refl)

pub returns-in_err-r : goal.returns-in_err-r
returns-in_err-r c = rw c.from_residual.ensures (sym (c.loop-n.invariant.1 ∙ grow_stuck _ c.loop-n.n _ c.loop-n-test.true (sym c.in_err-r.ensures)))

pub loop-n-preserved : goal.loop-n-preserved
loop-n-preserved c = (
  simp length-set c.loop-n.invariant.0,
  c.loop-n.invariant.1 ∙ grow-placed _ c.loop-n.n c.loop-n.list _ c.loop-n-test.true c.loop-n.invariant.0 (sym c.in_ok-r.ensures),
)

pub returns : goal.returns
returns c = sym (c.loop-n.invariant.1 ∙ grow_whole _ c.loop-n.n c.loop-n.list c.loop-n-test.false (omega arith) c.loop-n.invariant.0)
