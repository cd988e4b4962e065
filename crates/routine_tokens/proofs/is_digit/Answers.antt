-- Assumes nothing.
use Rattle.std.proofs.Common.{◌∙◌}
use Rattle.text.specs.Text.{is_digit}
use Rattle.routine_tokens.proofs.Bytes.{and_test}
use Rattle.routine_tokens.proofs.is_digit.Goals as goal

pub returns : goal.returns
returns c = c.is_ascii_digit.ensures.value ∙ (unfold is_digit in and_test _ _)
