-- The code's answer in the words of the definitions.
use Rattle.std.specs.Prelude.{Option}
use Rattle.std.proofs.Math.Option as logic
use Rattle.rows.specs.Options.{option_of}

abbrev pub found_of : {A : Type 0} → Option A → logic.Option A
found_of = option_of (λ a. a)
