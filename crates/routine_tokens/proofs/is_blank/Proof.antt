-- Assumes nothing.
use Rattle.routine_tokens.specs.Tokens.{is_blank}
use Rattle.routine_tokens.proofs.Bytes.{or_test}
use Rattle.routine_tokens.proofs.is_blank.Statement.{statement}
use Rattle.routine_tokens.proofs.is_blank.Tie as tie

pub is_blank_spec : {M : Type 1} → statement M
is_blank_spec =
    tie.close
    (tie.spec
    -- returns
    (λ c. unfold is_blank in simp or_test))
