-- Four bytes, the highest first. Assumes nothing.
use native.Mathlib.Omega.{arith}
use borrow.Author.Rules.{rules}
use Rattle.text.proofs.Writing.{writes_as, writes_then}
use Rattle.text.proofs.Digits.{hex_two}
use Rattle.shares.proofs.Turns.{word_bytes}
use Rattle.shares.proofs.put_hex_word.Statement.{statement}
use Rattle.shares.proofs.put_hex_word.Tie as tie

pub put_hex_word_spec : {M : Type 1} → statement M
put_hex_word_spec =
    tie.close
    (tie.spec
    -- low-byte-requires
    (λ c κs. search rules)
    -- put-hex-byte-requires
    (λ c κs. omega arith)
    -- low-byte-requires-2
    (λ c κs. search rules)
    -- put-hex-byte-requires-2
    (λ c κs.
    omega (arith, c.put_hex_byte-first.ensures.ends, hex_two c.low_byte.result))
    -- low-byte-requires-3
    (λ c κs. search rules)
    -- put-hex-byte-requires-3
    (λ c κs.
    omega (
      arith,
      c.put_hex_byte-first.ensures.ends,
      hex_two c.low_byte.result,
      c.put_hex_byte-second.ensures.ends,
      hex_two c.low_byte-2.result,
    ))
    -- low-byte-requires-4
    (λ c κs. search rules)
    -- put-hex-byte-requires-4
    (λ c κs.
    omega (
      arith,
      c.put_hex_byte-first.ensures.ends,
      hex_two c.low_byte.result,
      c.put_hex_byte-second.ensures.ends,
      hex_two c.low_byte-2.result,
      c.put_hex_byte-third.ensures.ends,
      hex_two c.low_byte-3.result,
    ))
    -- same-length
    (λ c. search rules)
    -- returns
    (λ c. (
      writes_as (word_bytes _ c.low_byte.ensures c.low_byte-2.ensures c.low_byte-3.ensures
          c.low_byte-4.ensures)
          (writes_then c.put_hex_byte-first.ensures
          (writes_then c.put_hex_byte-second.ensures
          (writes_then c.put_hex_byte-third.ensures c.put_hex_byte.ensures))),
      omega (
        arith,
        c.put_hex_byte-first.ensures.ends,
        hex_two c.low_byte.result,
        c.put_hex_byte-second.ensures.ends,
        hex_two c.low_byte-2.result,
        c.put_hex_byte-third.ensures.ends,
        hex_two c.low_byte-3.result,
        c.put_hex_byte.ensures.ends,
        hex_two c.low_byte-4.result,
      ),
    )))
