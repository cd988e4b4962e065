-- Inside the text the byte decides. Assumes nothing.
use borrow.Author.Rules.{rules}
use Rattle.formula_reader.proofs.Laws.{stands_in, stands_out}
use Rattle.formula_reader.proofs.stands.Statement.{statement}
use Rattle.formula_reader.proofs.stands.Tie as tie

pub stands_spec : {M : Type 1} → statement M
stands_spec =
    tie.close
    (tie.spec
    -- shared-slice-read-result
    (λ c. search rules)
    -- returns
    (λ c. stands_in _ _ _ c.if-at-text.true)
    -- returns-2
    (λ c. stands_out _ _ _ c.if-at-text.false))
