use Rattle.std.proofs.Common.{◌∙◌, ap}
use mathlib.Core.Bool.{not}
use Rattle.held_bytes.proofs.Waiting.{wait_ended, wait_open}
use Rattle.held_bytes.proofs.must_wait.Goals as goal

pub returns-then-not-ended : goal.returns-then-not-ended
returns-then-not-ended c = wait_open _ _ c.if-not-ended.true

pub returns-else-not-ended : goal.returns-else-not-ended
returns-else-not-ended c = ap not c.if-not-ended.false ∙ wait_ended _ _ c.if-not-ended.false
