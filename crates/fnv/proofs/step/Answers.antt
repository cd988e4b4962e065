use Rattle.fnv.proofs.Marks.{step_marks}
use Rattle.fnv.proofs.step.Goals as goal

pub returns : goal.returns
returns c = step_marks _ c.from.ensures c.wrapping_mul.ensures
