-- A word, a number and the report. Assumes nothing.
use native.Mathlib.Omega.{arith}
use borrow.Author.Rules.{rules}
use Rattle.text.proofs.Writing.{writes_as, writes_then}
use Rattle.text.proofs.Digits.{decimal_machine}
use Rattle.formula_printing.proofs.Texts.{sat_words}
use Rattle.formula_printing.proofs.put_sat.Statement.{statement}
use Rattle.formula_printing.proofs.put_sat.Tie as tie

pub put_sat_spec : {M : Type 1} → statement M
put_sat_spec =
    tie.close
    (tie.spec
    -- put-bytes-requires
    (λ c κs. search rules)
    -- put-decimal-requires
    (λ c κs. omega (arith, c.put_bytes-number.ensures.ends))
    -- put-byte-requires
    (λ c κs. let k = decimal_machine c.args.n (omega arith) in
    omega (arith, c.put_bytes-number.ensures.ends, c.put_decimal-behind.ensures.ends))
    -- put-report-requires
    (λ c κs. let k = decimal_machine c.args.n (omega arith) in (
      omega (
        arith,
        c.put_bytes-number.ensures.ends,
        c.put_decimal-behind.ensures.ends,
        c.put_byte-line.ensures.ends,
      ),
      omega arith,
      omega arith,
      c.requires,
    ))
    -- same-length
    (λ c. search rules)
    -- returns
    (λ c. let k = decimal_machine c.args.n (omega arith) in (
      writes_as (sat_words _ _) (writes_then c.put_bytes-number.ensures
          (writes_then c.put_decimal-behind.ensures
          (writes_then c.put_byte-line.ensures c.put_report.ensures.0))),
      omega (
        arith,
        c.put_bytes-number.ensures.ends,
        c.put_decimal-behind.ensures.ends,
        c.put_byte-line.ensures.ends,
        c.put_report.ensures.1,
      ),
    )))
