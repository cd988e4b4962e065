-- Assumes nothing.
use native.Mathlib.Omega.{arith}
use mathlib.Core.Path.{◌∙◌}
use Rattle.routine_tokens.proofs.Bytes.{line_start}
use Rattle.routine_tokens.proofs.line_of.Statement.{statement}
use Rattle.routine_tokens.proofs.line_of.Tie as tie

pub line_of_spec : {M : Type 1} → statement M
line_of_spec =
    tie.close
    (tie.spec
    -- line-from-requires
    (λ c κs. omega arith)
    -- returns
    (λ c. (c.line_from.ensures.0 ∙ line_start _ _, c.line_from.ensures.1)))
