-- By cases. Assumes nothing.
use borrow.Author.Rules.{rules}
use mathlib.Core.Path.{refl}
use Rattle.formula.specs.Call.{is_satisfiable}
use Rattle.formula_call.proofs.is_satisfiable.Statement.{statement}
use Rattle.formula_call.proofs.is_satisfiable.Tie as tie

returns : tie.Need-returns-in-Satisfiable
unfolding is_satisfiable
returns c = search rules

returns_2 : tie.Need-returns-in-Refuted
unfolding is_satisfiable
returns_2 c = search rules

returns_3 : tie.Need-returns-in-Refused
unfolding is_satisfiable
-- returns-3
returns_3 c = rw c.in-Refused.is refl

pub is_satisfiable_spec : {M : Type 1} → statement M
is_satisfiable_spec =
    tie.close
    (tie.spec
    -- enum-told
    (λ c. search rules)
    -- enum-told-2
    (λ c. search rules)
    -- enum-known-answer
    (λ c. search rules)
    -- returns
    returns
    -- returns-2
    returns_2
    -- returns-3
    returns_3)
