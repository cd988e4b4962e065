-- Assumes nothing.
use borrow.Author.Rules.{rules}
use Rattle.routine_tokens.specs.Tokens.{is_word_byte}
use Rattle.routine_tokens.proofs.Bytes.{or_test}
use Rattle.routine_tokens.proofs.is_word_byte.Statement.{statement}
use Rattle.routine_tokens.proofs.is_word_byte.Tie as tie

pub is_word_byte_spec : {M : Type 1} → statement M
is_word_byte_spec =
    tie.close
    (tie.spec
    -- is-letter-requires
    (λ c κs. search rules)
    -- is-digit-requires
    (λ c κs. search rules)
    -- returns
    (λ c. unfold is_word_byte in rw (c.is_letter.ensures, c.is_digit.ensures) (or_test _ _)))
