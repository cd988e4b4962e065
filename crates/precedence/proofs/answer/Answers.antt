-- The order list where all rules were placed, else the ring.
use Rattle.std.proofs.Common.{sym}
use Rattle.precedence.proofs.Answered.{order_size, does_order, does_ring}
use Rattle.precedence.proofs.answer.Goals as goal

pub returns-in-Some : goal.returns-in-Some
returns-in-Some c =
    let e = sym c.in-Some.ensures in
    does_order _ _ c.in-Some.list _ e (order_size c.args.sheet.now c.in-Some.list c.requires.0 c.requires.1 e) c.write.ensures

pub returns-in-None : goal.returns-in-None
returns-in-None c =
    does_ring _ _ c.shown_ring-ring.result _ (sym c.in-None.ensures) c.shown_ring-ring.ensures.0 c.shown_ring-ring.ensures.1 c.requires.2
    c.write-in-None.ensures
