-- The count, by whether it is above the limit.
use Rattle.std.proofs.Common.{sym}
use Rattle.walk.proofs.Lines.{counted_more, counted_full}
use Rattle.walk.proofs.counted.Goals as goal

pub returns-then-count-le16000 : goal.returns-then-count-le16000
returns-then-count-le16000 c = sym (counted_more _ c.if-count-le16000.true)

pub returns : goal.returns
returns c = sym (counted_full _ c.if-count-le16000.false)
