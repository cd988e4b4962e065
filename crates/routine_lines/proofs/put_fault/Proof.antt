-- Words and a place, one behind the other. Assumes nothing.
use native.Mathlib.Omega.{arith}
use borrow.Author.Rules.{rules}
use Rattle.text.proofs.Writing.{writes_as, writes_then}
use Rattle.routine_lines.proofs.Words.{fault_words}
use Rattle.routine_lines.proofs.put_fault.Statement.{statement}
use Rattle.routine_lines.proofs.put_fault.Tie as tie

pub put_fault_spec : {M : Type 1} → statement M
put_fault_spec =
    tie.close
    (tie.spec
    -- put-bytes-requires
    (λ c κs. search rules)
    -- put-place-requires
    (λ c κs. omega (arith, c.put_bytes-to.ensures.ends))
    -- put-byte-requires
    (λ c κs. omega (arith, c.put_bytes-to.ensures.ends, c.put_place-to.ensures.1))
    -- put-word-requires
    (λ c κs. let a = c.put_bytes-to.ensures.ends in
    omega (arith, a, c.put_place-to.ensures.1, c.put_byte-to.ensures.ends))
    -- put-byte-requires-2
    (λ c κs. let a = c.put_bytes-to.ensures.ends in
    let b = c.put_place-to.ensures.1 in
    omega (arith, a, b, c.put_byte-to.ensures.ends, c.put_word-to.ensures.1))
    -- same-length
    (λ c. search rules)
    -- returns
    (λ c. let a = c.put_bytes-to.ensures in
    let b = c.put_place-to.ensures in
    let d = c.put_byte-to.ensures in
    let e = c.put_word-to.ensures in
    let f = c.put_byte.ensures in
    let w = writes_then a (writes_then b.0 (writes_then d (writes_then e.0 f))) in
    (writes_as (fault_words _ _ _) w, omega (arith, a.ends, b.1, d.ends, e.1, f.ends))))
