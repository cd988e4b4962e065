-- One mark. Assumes nothing.
use native.Mathlib.Omega.{arith}
use mathlib.Core.Path.{refl}
use Rattle.formula_query.proofs.is_marked.Statement.{statement}
use Rattle.formula_query.proofs.is_marked.Tie as tie

pub is_marked_spec : {M : Type 1} → statement M
is_marked_spec =
    tie.close
    (tie.spec
    -- mul-result
    (λ c. omega arith)
    -- add-result
    (λ c. omega arith)
    -- element-copy-out-result
    (λ c. omega arith)
    -- returns
    (λ c. refl))
