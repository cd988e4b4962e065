-- One byte. Assumes nothing.
use native.Mathlib.Omega.{arith}
use Rattle.text.proofs.Writing.{writes_as, writes_length}
use Rattle.joiner.proofs.Laws.{sign_plain, sign_negated}
use Rattle.joiner.proofs.put_sign.Statement.{statement}
use Rattle.joiner.proofs.put_sign.Tie as tie

pub put_sign_spec : {M : Type 1} → statement M
put_sign_spec =
    tie.close
    (tie.spec
    -- put-byte-requires
    (λ c κs. omega (arith, c.requires))
    -- same-length
    (λ c. writes_length c.put_byte.ensures)
    -- returns
    (λ c.
    writes_as (sign_plain c.if-plain.true) c.put_byte.ensures)
    -- put-byte-requires-2
    (λ c κs. omega (arith, c.requires))
    -- same-length-2
    (λ c. writes_length c.put_byte-2.ensures)
    -- returns-2
    (λ c.
    writes_as (sign_negated c.if-plain.false) c.put_byte-2.ensures))
