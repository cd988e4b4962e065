-- The part that was found.
use Rattle.joiner.proofs.Answers as law
use Rattle.joiner.proofs.hand_back.Goals as goal

pub returns-in-Ok-InFirst : goal.returns-in-Ok-InFirst
returns-in-Ok-InFirst c = law.part_first c.args.first.now c.args.second.now c.args.line.now (rw c.in-Ok-InFirst.field-0-is at c.in-Ok-InFirst.ensures.0)

pub returns-in-Ok-InSecond : goal.returns-in-Ok-InSecond
returns-in-Ok-InSecond c = law.part_second c.args.first.now c.args.second.now c.args.line.now (rw c.in-Ok-InSecond.field-0-is at c.in-Ok-InSecond.ensures.0)

pub returns-in-Err : goal.returns-in-Err
returns-in-Err c = law.part_none c.args.first.now c.args.second.now c.args.line.now _ c.in-Err.ensures.0
