-- Assumes nothing.
use borrow.Author.Rules.{rules}
use mathlib.Core.Path.{ap}
use Rattle.text.proofs.Writing.{writes_as}
use Rattle.check_printing.specs.CheckText.{checked_text}
use Rattle.check_printing.proofs.put_checked.Statement.{statement}
use Rattle.check_printing.proofs.put_checked.Tie as tie

pub put_checked_spec : {M : Type 1} → statement M
put_checked_spec =
    tie.close
    (tie.spec
    -- answer-requires
    (λ c κs. search rules)
    -- put-answer-requires
    (λ c κs. search rules)
    -- same-length
    (λ c. search rules)
    -- returns
    (λ c. (writes_as (ap checked_text c.answer.ensures) c.put_answer.ensures.0, c.put_answer.ensures.1)))
