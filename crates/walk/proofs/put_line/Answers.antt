-- A line is written where it fits, byte by byte.
use Rattle.std.proofs.Common.{sym}
use Rattle.walk.proofs.Lines.{put_line_full, put_line_put}
use Rattle.walk.proofs.put_line.Goals as goal

pub returns-then-lines-at : goal.returns-then-lines-at
returns-then-lines-at c = sym (put_line_full _ _ _ _ _ _ c.if-lines-at.true)

pub returns : goal.returns
returns c = sym (put_line_put _ _ _ _ _ _ c.if-lines-at.false)
