-- Assumes nothing.
use Rattle.std.proofs.Common.{Bool, nat_eq, ap, ◌∙◌}
use mathlib.Core.Bool.{◌||◌}
use Rattle.routine_tokens.proofs.Bytes.{letter_ranges}
use Rattle.routine_tokens.proofs.is_letter.Goals as goal

pub returns : goal.returns
returns c = ap (λ (x : Bool). x || nat_eq c.args.b 95) c.is_ascii_alphabetic.ensures.value ∙ letter_ranges c.args.b
