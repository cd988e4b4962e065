-- The sign, the field and the term. Assumes nothing.
use Prim.Native.Nat.{ℕ}
use borrow.Author.Rules.{rules}
use mathlib.Core.Path.{ap, ap₂, ◌∙◌}
use mathlib.Core.Bool.{Bool, ◌&&◌}
use lib.Dec.{eqb}
use Rattle.between_tests.proofs.says_field.Statement.{statement}
use Rattle.between_tests.proofs.says_field.Tie as tie
use Rattle.between_search.specs.Tests.{agrees, says_field}

pub says_field_spec : {M : Type 1} → statement M
unfolding says_field
says_field_spec =
    tie.close
    (tie.spec
    -- sign-requires
    (λ c κs. search rules)
    -- agrees-requires
    (λ c κs. search rules)
    -- field-requires
    (λ c κs. search rules)
    -- right-requires
    (λ c κs. search rules)
    -- returns
    (λ c.
    ap₂ (λ (x y : Bool). x && y) (ap₂ (λ (x y : Bool). x && y)
    (c.agrees-same.ensures ∙ ap (agrees c.args.sign) c.sign.ensures)
    (ap (λ (x : ℕ). eqb x c.args.j) c.field-field.ensures)) (ap (λ (x : ℕ). eqb x c.args.t.0) c.right-term.ensures)))
