-- The bytes that are read. Assumes nothing.
use native.Mathlib.Omega.{arith}
use borrow.Author.Rules.{rules}
use mathlib.Core.Path.{sym}
use lib.Seq.{length-take-le}
use Rattle.text.proofs.Writing.{writes_as}
use Rattle.between_printing.proofs.Told.{all_read, cut_read}
use Rattle.between_printing.proofs.put_text.Statement.{statement}
use Rattle.between_printing.proofs.put_text.Tie as tie

pub put_text_spec : {M : Type 1} → statement M
put_text_spec =
    tie.close
    (tie.spec
    -- slice-aggregate-put-answer
    (λ c. sym (length-take-le 1024 c.args.input.now (omega arith)))
    -- put-answer-requires
    (λ c κs. search rules)
    -- same-length
    (λ c. search rules)
    -- returns
    (λ c.
    (writes_as (cut_read _) c.put_answer.ensures.0, c.put_answer.ensures.1))
    -- put-answer-requires-2
    (λ c κs. search rules)
    -- same-length-2
    (λ c. search rules)
    -- returns-2
    (λ c.
    (writes_as (all_read _ c.if-input-gt1024.false) c.put_answer-2.ensures.0, c.put_answer-2.ensures.1)))
