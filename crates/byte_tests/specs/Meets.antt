-- The byte of a role, and the refusal that it meets.
use Rattle.std.specs.Prelude.{ℕ, Bool, not, eqb, ltb, leb}
use Rattle.logic.specs.Search.{◌and◌}
use Rattle.logic.specs.Query.{Role}

-- a byte that counts from 1 to `most`, and its role, with its refusal
abbrev pub counted : ℕ → ℕ → Bool
counted most b = ltb 0 b and leb b most

unfoldable pub counted_role : ℕ → ℕ → Role
counted_role k most = record { refusal = k; allows = counted most }

-- the byte b meets refusal k
unfoldable pub meets : Role → ℕ → ℕ → Bool
meets role k b = eqb role.refusal k and not (role.allows b)
