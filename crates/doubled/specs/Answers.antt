-- The code's answer as the definitions' option.
use Rattle.std.specs.Prelude.{ℕ, Option}
use Rattle.std.proofs.Math.Option as logic
use Rattle.rows.specs.declared.Term.{Term}
use Rattle.rows.specs.Options.{option_of}

-- the numbers of two terms that were looked for
abbrev pub two_of : Option (Term × Term) → logic.Option (ℕ × ℕ)
two_of = option_of (λ ab. (ab.0.0, ab.1.0))
