-- Assumes nothing.
use borrow.Author.Rules.{rules}
use native.Mathlib.Omega.{arith}
use Rattle.check_printing.proofs.Answers.{text_long, text_many, text-read}
use Rattle.check_printing.proofs.read_text.Statement.{statement}
use Rattle.check_printing.proofs.read_text.Tie as tie

pub read_text_spec : {M : Type 1} → statement M
read_text_spec =
    tie.close
    (tie.spec
    -- returns
    (λ c. (omega arith, text_long _ c.if-text-gt256000.true))
    -- count-newlines-requires
    (λ c κs. search rules)
    -- returns-2
    (λ c. (omega arith, text_many _ _ c.if-text-gt256000.false c.count_newlines-count.ensures c.if-count-gt16000.true))
    -- cast-put-byte
    (λ c. omega arith)
    -- put-byte-requires
    (λ c κs. search rules)
    -- cast-put-byte-2
    (λ c. omega arith)
    -- put-byte-requires-2
    (λ c κs. omega (arith, c.put_byte-low.ensures.ends))
    -- put-numbers-requires
    (λ c κs. (omega (arith, c.put_byte-low.ensures.ends, c.put_byte-first.ensures.ends), c.if-text-gt256000.false))
    -- same-length
    (λ c. search rules)
    -- returns-3
    (λ c. text-read _ _ c.if-text-gt256000.false c.count_newlines-count.ensures _ _ c.if-count-gt16000.false c.requires c.put_byte-low.ensures c.put_byte-first.ensures c.put_numbers.ensures))
