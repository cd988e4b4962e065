-- Assumes nothing.
use borrow.Author.Rules.{rules}
use native.Mathlib.Omega.{arith}
use mathlib.Core.Path.{sym, ap, ◌∙◌}
use lib.Seq.{length-take-le}
use Rattle.checking.specs.CheckCall.{check_call_of}
use Rattle.decimal_lines.proofs.Reading.{begins_long}
use Rattle.check_printing.proofs.Answers.{bytes_there, text_there}
use Rattle.check_printing.proofs.answer.Statement.{statement}
use Rattle.check_printing.proofs.answer.Tie as tie

pub answer_spec : {M : Type 1} → statement M
answer_spec =
    tie.close
    (tie.spec
    -- begins-requires
    (λ c κs. search rules)
    -- check-in-requires
    (λ c κs. search rules)
    -- returns
    (λ c. c.check_in.ensures ∙ ap (check_call_of _ _) (bytes_there _ c.begins.ensures c.if-not-begins.true))
    -- slice-aggregate-read-text
    (λ c. search rules)
    -- sub-read-text
    (λ c. omega (arith, begins_long _ _ (sym c.begins.ensures ∙ c.if-not-begins.false)))
    -- part-read-text-start
    (λ c. omega (arith, begins_long _ _ (sym c.begins.ensures ∙ c.if-not-begins.false)))
    -- part-read-text-end
    (λ c. search rules)
    -- read-text-requires
    (λ c κs. search rules)
    -- array-share-prefix-lines
    (λ c. search rules)
    -- slice-aggregate-check-in
    (λ c. sym (length-take-le _ _ (omega (arith, c.read_text-made.ensures.0))))
    -- check-in-requires-2
    (λ c κs. search rules)
    -- returns-2
    (λ c.
    c.check_in-2.ensures ∙ ap (check_call_of _ _) (c.read_text-made.ensures.1 ∙ text_there _ c.begins.ensures c.if-not-begins.false)))
