-- The sign, and then the numbers. Assumes nothing.
use native.Mathlib.Omega.{arith}
use Rattle.text.proofs.Writing.{writes_then, writes_length}
use Rattle.joiner.proofs.put_literal.Statement.{statement}
use Rattle.joiner.proofs.put_literal.Tie as tie

pub put_literal_spec : {M : Type 1} → statement M
put_literal_spec =
    tie.close
    (tie.spec
    -- put-sign-requires
    (λ c κs. c.requires.0)
    -- cast-put-byte
    (λ c. omega (arith, c.requires.1))
    -- put-byte-requires
    (λ c κs. omega (arith, c.put_sign-signed.ensures.ends, c.requires.0))
    -- cast-put-byte-2
    (λ c. omega (arith, c.requires.2))
    -- put-byte-requires-2
    (λ c κs.
    omega (arith, c.put_sign-signed.ensures.ends, c.put_byte-next.ensures.ends, c.requires.0))
    -- same-length
    (λ c.
    writes_length (writes_then c.put_sign-signed.ensures (writes_then c.put_byte-next.ensures c.put_byte.ensures)))
    -- returns
    (λ c.
    writes_then c.put_sign-signed.ensures (writes_then c.put_byte-next.ensures c.put_byte.ensures)))
