-- Assumes nothing.
use borrow.Author.Rules.{rules}
use mathlib.Core.Path.{◌∙◌}
use Rattle.routine_tokens.proofs.Bytes.{or_test, separates_within, separates_outside}
use Rattle.routine_tokens.proofs.separates.Statement.{statement}
use Rattle.routine_tokens.proofs.separates.Tie as tie

pub separates_spec : {M : Type 1} → statement M
separates_spec =
    tie.close
    (tie.spec
    -- shared-slice-read-result
    (λ c. search rules)
    -- returns
    (λ c. rw c.if-comment.true (separates_within _ _ c.requires))
    -- shared-slice-read-is-blank
    (λ c. search rules)
    -- is-blank-requires
    (λ c κs. search rules)
    -- opens-comment-requires
    (λ c κs. search rules)
    -- returns-2
    (λ c. rw (c.if-comment.false, c.is_blank.ensures, c.opens_comment.ensures) (or_test _ _ ∙ separates_outside _ _ c.requires)))
