-- Where the test of a rule allows it.
use Rattle.std.specs.Prelude.{ℕ, Bool, not}
use Rattle.logic.specs.Search.{◌and◌, any}
use Rattle.logic.specs.Facts.{Graph}
use Rattle.logic.specs.Rules.{Move, conditions, alternatives, held}

-- `applies`, of the parts of a path that it reads: a rule reads the facts of its own link alone
unfoldable pub allowed : ℕ → (ℕ → Bool) → Graph → Move → Bool
allowed n alive g m = conditions n alive (λ i. g) m and not (any (held (λ i. g)) (alternatives n (λ i. g) m))
