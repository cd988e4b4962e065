-- An answer of the code's as an option of the definitions', and a term that was looked for as its number.
use Rattle.std.specs.Prelude.{ℕ, Option, Some, None}
use Rattle.std.proofs.Math.Option as logic
use Rattle.rows.specs.declared.Term.{Term}

abbrev pub option_of : {A B : Type 0} → (A → B) → Option A → logic.Option B
option_of f (Some x) = logic.some (f x)
option_of f None = logic.none

-- the number of the term that was found
abbrev pub found_of : Option Term → logic.Option ℕ
found_of = option_of (λ t. t.0)
