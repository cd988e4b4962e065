-- The numbers written and those left to follow make the ring.
use Rattle.pair_rings.proofs.Turns.{followed_start, followed_turn, followed_end}
use Rattle.pair_rings.proofs.follow_ring.Goals as goal

pub loop-n-init : goal.loop-n-init
loop-n-init c = followed_start _ _ c.args.s c.requires.2

pub loop-n-preserved : goal.loop-n-preserved
loop-n-preserved c =
    followed_turn _ _ _ c.loop-n.n c.loop-n.a _ c.loop-n.ring c.loop-n-test.true c.requires.3 c.next_on-a.ensures c.loop-n.invariant

pub returns : goal.returns
returns c = (
  c.loop-n.invariant.size,
  followed_end _ c.args.k c.args.s c.loop-n.n c.loop-n.a c.loop-n.ring c.loop-n-test.false c.requires.3 c.loop-n.invariant,
)
