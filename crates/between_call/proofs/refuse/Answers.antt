-- Zeros, and the refusal. Assumes nothing.
use Rattle.between_call.proofs.Answering.{blank_does}
use Rattle.between_call.proofs.refuse.Goals as goal

pub returns : goal.returns
returns c = blank_does _ _ _ c.clear.ensures
