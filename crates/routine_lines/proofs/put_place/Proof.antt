-- Assumes nothing.
use native.Mathlib.Omega.{arith}
use borrow.Author.Rules.{rules}
use Rattle.text.proofs.Writing.{writes_as, writes_then}
use Rattle.text.proofs.Digits.{decimal_machine}
use Rattle.routine_lines.proofs.Words.{place_words}
use Rattle.routine_lines.proofs.put_place.Statement.{statement}
use Rattle.routine_lines.proofs.put_place.Tie as tie

pub put_place_spec : {M : Type 1} → statement M
put_place_spec =
    tie.close
    (tie.spec
    -- put-decimal-requires
    (λ c κs. search rules)
    -- put-byte-requires
    (λ c κs. let l = decimal_machine c.args.line (omega arith) in
    omega (arith, l, c.put_decimal-to.ensures.ends))
    -- put-decimal-requires-2
    (λ c κs. let l = decimal_machine c.args.line (omega arith) in
    omega (arith, l, c.put_decimal-to.ensures.ends, c.put_byte-to.ensures.ends))
    -- same-length
    (λ c. search rules)
    -- returns
    (λ c. let s = c.args in
    let l = decimal_machine s.line (omega arith) in
    let k = decimal_machine s.column (omega arith) in
    let a = c.put_decimal-to.ensures in
    let b = c.put_byte-to.ensures in
    let d = c.put_decimal.ensures in
    (writes_as (place_words _ _) (writes_then a (writes_then b d)), omega (arith, l, k, a.ends, b.ends, d.ends))))
