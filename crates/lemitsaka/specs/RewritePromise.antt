-- What the rewriting calls promise to C.
use Rattle.std.specs.Prelude.{ℕ, ◌≡◌, List}
use Rattle.encoding.specs.WritingCall.{Outcome}
use Rattle.codes.specs.Codes.{code}
use Rattle.answer_codes.specs.Numbers.{writing_digits}

pub record RewriteCodes (outcome : Outcome) (r : ℕ) (bytes : List ℕ) : Type 0 where
  pub answers : r ≡ code (writing_digits outcome.answer)
  pub leaves : bytes ≡ outcome.lent
