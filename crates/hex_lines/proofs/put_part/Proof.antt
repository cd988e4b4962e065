-- Assumes nothing.
use borrow.Author.Rules.{rules}
use native.Mathlib.Omega.{arith}
use Rattle.text.proofs.Writing.{writes_then}
use Rattle.text.proofs.Digits.{decimal_machine}
use Rattle.hex_lines.proofs.put_part.Statement.{statement}
use Rattle.hex_lines.proofs.put_part.Tie as tie

pub put_part_spec : {M : Type 1} → statement M
put_part_spec =
    tie.close
    (tie.spec
    -- put-bytes-requires
    (λ c κs. omega arith)
    -- put-decimal-requires
    (λ c κs. omega (arith, c.put_bytes-number.ensures.ends))
    -- put-bytes-requires-2
    (λ c κs.
    omega (arith, c.put_bytes-number.ensures.ends, c.put_decimal-colon.ensures.ends, decimal_machine c.args.at (omega arith)))
    -- put-hex-line-requires
    (λ c κs. (
      omega (
        arith,
        c.put_bytes-number.ensures.ends,
        c.put_decimal-colon.ensures.ends,
        decimal_machine c.args.at (omega arith),
        c.put_bytes-bytes.ensures.ends,
      ),
      omega arith,
    ))
    -- same-length
    (λ c. search rules)
    -- returns
    (λ c.
    writes_then c.put_bytes-number.ensures
    (writes_then c.put_decimal-colon.ensures (writes_then c.put_bytes-bytes.ensures c.put_hex_line.ensures))))
