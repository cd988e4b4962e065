-- What the joining call promises to C.
use Rattle.std.specs.Prelude.{ℕ, ◌≡◌, List}
use Rattle.joining.specs.Call.{Outcome}
use Rattle.codes.specs.Codes.{code}
use Rattle.answer_codes.specs.Numbers.{join_digits}

pub record JoinCodes (outcome : Outcome) (r : ℕ) (bytes : List ℕ) : Type 0 where
  pub answers : r ≡ code (join_digits outcome.answer)
  pub leaves : bytes ≡ outcome.lent
