-- One line of a derivation's bytes.
use Rattle.std.specs.Prelude.{ℕ, suc, ◌+◌, ◌*◌, ◌≤◌, ◌≡◌, Bool, false, not, List, length}
use Rattle.std.proofs.Math.Option.{Option, none, some}
use Rattle.logic.specs.Search.{at}
use Rattle.logic.specs.Facts.{Line}
use Rattle.logic.specs.Derivation.{lines_in}
use Rattle.checking.specs.Fitting.{same_line}
use Rattle.checking.specs.CheckCall.{count_in, misshapen}

-- the bytes of a derivation of `count` lines
pub record Shaped (bytes : List ℕ) (count : ℕ) : Type 0 where
  pub long : length bytes ≡ 2 + 4 * count
  pub counted : count ≡ count_in bytes
  pub bounded : count ≤ 16000

-- no refusal 20
unfoldable pub shapely : List ℕ → Bool
shapely bytes = not (misshapen bytes)

-- line i, from 0, where there is one
unfoldable pub line_at : List ℕ → ℕ → Option Line
line_at bytes i = at (lines_in bytes) (suc i)

-- it is there and is this line
unfoldable pub is_line : Option Line → Line → Bool
is_line none h = false
is_line (some l) h = same_line l h
