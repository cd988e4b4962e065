-- What the reader of a text leaves: the numbers behind a place, or nothing that counts.
use Rattle.std.specs.Prelude.{ℕ, ◌≡◌, List}
use Rattle.std.proofs.Math.Option.{Option, none, some}
use Rattle.text.specs.Text.{Writes}

abbrev pub Puts : List ℕ → ℕ → Option (List ℕ) → List ℕ → ℕ → Type 0
Puts before at none after r = r ≡ 0
Puts before at (some ns) after r = Writes before at ns after r
