-- Assumes nothing.
use native.Mathlib.Omega.{arith}
use borrow.Author.Rules.{rules}
use Rattle.routine_tokens.proofs.Rows.{token_word, part_holds}
use Rattle.routine_tokens.proofs.word_at.Statement.{statement}
use Rattle.routine_tokens.proofs.word_at.Tie as tie

pub word_at_spec : {M : Type 1} → statement M
word_at_spec =
    tie.close
    (tie.spec
    -- past-word-requires
    (λ c κs. search rules)
    -- sub-word-kind
    (λ c. omega (arith, c.past_word-end.ensures))
    -- part-word-kind-start
    (λ c. omega (arith, c.past_word-end.ensures))
    -- part-word-kind-end
    (λ c. omega (arith, c.past_word-end.ensures))
    -- word-kind-requires
    (λ c κs. part_holds _ _ _ (omega (arith, c.past_word-end.ensures, c.requires)) c.past_word-end.ensures.1)
    -- returns
    (λ c. token_word _ _ _ _ _ c.past_word-end.ensures.0 c.word_kind-kind.ensures))
