-- The test is the definition's. Assumes nothing.
use borrow.Author.Rules.{rules}
use Rattle.logic.specs.Search.{◌and◌}
use Rattle.ordering.specs.Sheet.{is_rule}
use Rattle.sheet_reader.proofs.is_rule.Statement.{statement}
use Rattle.sheet_reader.proofs.is_rule.Tie as tie

pub is_rule_spec : {M : Type 1} → statement M
unfolding ◌and◌ is_rule
is_rule_spec =
    tie.close
    (tie.spec
    -- returns
    (λ c. search rules))
