-- Assumes nothing.
use borrow.Author.Rules.{rules}
use mathlib.Core.Path.{◌∙◌}
use Rattle.routine_tokens.proofs.Rows.{token_from_lem}
use Rattle.routine_tokens.proofs.next_token.Statement.{statement}
use Rattle.routine_tokens.proofs.next_token.Tie as tie

pub next_token_spec : {M : Type 1} → statement M
next_token_spec =
    tie.close
    (tie.spec
    -- past-separators-requires
    (λ c κs. search rules)
    -- token-at-requires
    (λ c κs. search rules)
    -- returns
    (λ c. c.token_at.ensures ∙ (rw c.past_separators.ensures (token_from_lem _ _))))
