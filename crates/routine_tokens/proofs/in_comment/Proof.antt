-- Assumes nothing.
use Rattle.routine_tokens.specs.Tokens.{in_comment}
use Rattle.routine_tokens.proofs.in_comment.Statement.{statement}
use Rattle.routine_tokens.proofs.in_comment.Tie as tie

pub in_comment_spec : {M : Type 1} → statement M
in_comment_spec =
    tie.close
    (tie.spec
    -- returns
    (λ c. unfold in_comment in rw c.if-comment.true)
    -- returns-2
    (λ c. unfold in_comment in rw c.if-comment.false))
