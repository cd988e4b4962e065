-- When more bytes are waited for.
use Rattle.std.specs.Prelude.{ℕ, Bool, false, cond, ltb}

-- fewer bytes have come than are needed, and more may come
unfoldable pub must_wait : ℕ → ℕ → Bool → Bool
must_wait n needed ended = cond ended false (ltb n needed)
