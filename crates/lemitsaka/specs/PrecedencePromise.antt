-- What the precedence call promises C, on every sheet and every buffer: the answer's number, and every lent byte.
use Rattle.std.specs.Prelude.{ℕ, ◌≡◌, List}
use Rattle.ordering.specs.Calls.{Outcome}
use Rattle.codes.specs.Codes.{code}
use Rattle.answer_codes.specs.Numbers.{order_digits}

pub record OrderCodes (outcome : Outcome) (r : ℕ) (bytes : List ℕ) : Type 0 where
  pub answers : r ≡ code (order_digits outcome.answer)
  pub leaves : bytes ≡ outcome.lent
