-- A number of the array, or the number itself.
use Rattle.std.proofs.Common.{sym, ◌∙◌, arith}
use Rattle.facts.proofs.Rep.{rep_in, rep_beyond}
use Rattle.facts.proofs.read_rep.Goals as goal

pub returns-then-t-lt17 : goal.returns-then-t-lt17
returns-then-t-lt17 c = c.from.ensures ∙ sym (rep_in _ _ (omega arith))

pub returns-else-t-lt17 : goal.returns-else-t-lt17
returns-else-t-lt17 c = sym (rep_beyond _ _ (omega arith))
