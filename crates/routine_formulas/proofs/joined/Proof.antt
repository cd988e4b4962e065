-- By its kind. Assumes nothing.
use Rattle.routine_formulas.proofs.Parts.{truth_and, truth_or, truth_implies, truth_same}
use Rattle.routine_formulas.proofs.joined.Statement.{statement}
use Rattle.routine_formulas.proofs.joined.Tie as tie

pub joined_spec : {M : Type 1} → statement M
joined_spec =
    tie.close
    (tie.spec
    -- returns
    (λ c. truth_and _ _ _ c.if-kind-eq8.true)
    -- returns-2
    (λ c. truth_or _ _ _ c.if-kind-eq9.true)
    -- returns-3
    (λ c. truth_implies _ _ _ c.if-kind-eq10.true)
    -- returns-4
    (λ c. truth_same _ _ _ c.if-kind-eq8.false c.if-kind-eq9.false c.if-kind-eq10.false))
