-- Assumes nothing.
use native.Mathlib.Omega.{arith}
use borrow.Author.Rules.{rules}
use mathlib.Core.Path.{sym, ◌∙◌}
use Rattle.routine_tokens.proofs.Bytes.{word_here}
use Rattle.routine_tokens.proofs.Rows.{token_end, token_is_word, token_is_sign}
use Rattle.routine_tokens.proofs.token_at.Statement.{statement}
use Rattle.routine_tokens.proofs.token_at.Tie as tie

pub token_at_spec : {M : Type 1} → statement M
token_at_spec =
    tie.close
    (tie.spec
    -- returns
    (λ c. token_end _ _ c.if-text-at.true)
    -- shared-slice-read-is-word-byte
    (λ c. search rules)
    -- is-word-byte-requires
    (λ c κs. search rules)
    -- word-at-requires
    (λ c κs. let e = sym c.is_word_byte.ensures ∙ c.if-is_word_byte.true in
    let w = word_here c.args.text.now c.args.at c.if-text-at.false e in
    (c.if-text-at.false, omega (arith, w)))
    -- returns-2
    (λ c. c.word_at.ensures ∙ token_is_word _ _ c.if-text-at.false (sym c.is_word_byte.ensures ∙ c.if-is_word_byte.true))
    -- sign-in-requires
    (λ c κs. (c.if-text-at.false, omega arith))
    -- returns-3
    (λ c. c.sign_in.ensures ∙ token_is_sign _ _ c.if-text-at.false (sym c.is_word_byte.ensures ∙ c.if-is_word_byte.false)))
