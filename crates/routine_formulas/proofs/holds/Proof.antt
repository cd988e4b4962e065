-- No name is bound. Assumes nothing.
use borrow.Author.Rules.{rules}
use Rattle.routine_formulas.proofs.Parts.{whole_here, whole_none, none_bound}
use Rattle.routine_formulas.proofs.holds.Statement.{statement}
use Rattle.routine_formulas.proofs.holds.Tie as tie

pub holds_spec : {M : Type 1} → statement M
holds_spec =
    tie.close
    (tie.spec
    -- slice-aggregate-holds-part
    (λ c. search rules)
    -- holds-part-requires
    (λ c κs. search rules)
    -- returns
    (λ c. whole_here _ _ _ _ _ c.if-i-lt3072.true (none_bound _ _ _ _ c.holds_part.ensures.1))
    -- returns-2
    (λ c. whole_none _ _ _ _ c.if-i-lt3072.false))
