-- The sign and the number are tested where they stand. Assumes nothing.
use native.Mathlib.Omega.{arith}
use borrow.Author.Rules.{rules}
use Rattle.entries.proofs.flag_passes.Statement.{statement}
use Rattle.entries.proofs.flag_passes.Tie as tie

-- The places that lie behind a place.

abbrev sign_allowed_of_number_allowed : tie.After-number_allowed-number → tie.After-sign_allowed-sign
sign_allowed_of_number_allowed c = c.before.before

pub flag_passes_spec : {M : Type 1} → statement M
flag_passes_spec =
    tie.close
    (tie.spec
    -- byte-at-requires
    (λ c κs. omega arith)
    -- sign-allowed-requires
    (λ c κs. search rules)
    -- byte-at-requires-2
    (λ c κs. omega arith)
    -- number-allowed-requires
    (λ c κs. search rules)
    -- returns
    (λ c. rw (c.number_allowed-number.ensures, c.byte_at-2.ensures, (sign_allowed_of_number_allowed c).sign_allowed-sign.ensures, (sign_allowed_of_number_allowed c).byte_at.ensures)))
