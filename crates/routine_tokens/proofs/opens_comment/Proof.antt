-- Assumes nothing.
use borrow.Author.Rules.{rules}
use mathlib.Core.Path.{◌∙◌}
use Rattle.routine_tokens.proofs.Bytes.{and_test, comment_short, comment_test}
use Rattle.routine_tokens.proofs.opens_comment.Statement.{statement}
use Rattle.routine_tokens.proofs.opens_comment.Tie as tie

pub opens_comment_spec : {M : Type 1} → statement M
opens_comment_spec =
    tie.close
    (tie.spec
    -- add-next
    (λ c. search rules)
    -- returns
    (λ c. comment_short c.args.text.now c.args.at c.requires c.if-text-next.true)
    -- shared-slice-read-result
    (λ c. search rules)
    -- shared-slice-read-result-2
    (λ c. search rules)
    -- returns-2
    (λ c. and_test _ _ ∙ comment_test c.args.text.now c.args.at c.requires c.if-text-next.false))
