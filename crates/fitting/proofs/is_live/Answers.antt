-- 0 and what is above n are no terms; of a term what it was replaced by is read.
use Rattle.fitting.proofs.Lives.{live-zero, live_above, live_here}
use Rattle.fitting.proofs.is_live.Goals as goal

pub returns-then-at-eq0 : goal.returns-then-at-eq0
returns-then-at-eq0 c = live-zero _ c.args.s.now _ c.if-at-eq0.true

pub returns-then-n-at : goal.returns-then-n-at
returns-then-n-at c = live_above _ c.args.s.now _ c.if-n-at.true

pub returns : goal.returns
returns c = live_here _ c.args.s.now _ c.requires c.if-at-eq0.false c.if-n-at.false _ c.from.ensures
