-- Assumes nothing.
use native.Mathlib.Omega.{arith}
use borrow.Author.Rules.{rules}
use Rattle.text.proofs.Writing.{writes_as, writes_length}
use Rattle.routine_lines.proofs.Words.{word_text, word_name, word_forall, word_limit}
use Rattle.routine_lines.proofs.put_word.Statement.{statement}
use Rattle.routine_lines.proofs.put_word.Tie as tie

pub put_word_spec : {M : Type 1} → statement M
put_word_spec =
    tie.close
    (tie.spec
    -- enum_told
    (λ c. search rules)
    -- put-bytes-requires
    (λ c κs. search rules)
    -- enum-told-2
    (λ c. search rules)
    -- put-bytes-requires-2
    (λ c κs. search rules)
    -- enum-told-3
    (λ c. search rules)
    -- put-bytes-requires-3
    (λ c κs. search rules)
    -- enum-told-4
    (λ c. search rules)
    -- put-bytes-requires-4
    (λ c κs. search rules)
    -- same-length
    (λ c. writes_length c.put_bytes.ensures)
    -- returns
    (λ c. let w = c.put_bytes.ensures in
    (writes_as (word_text c.in-Text.is) w, omega (arith, w.ends)))
    -- same-length-2
    (λ c. writes_length c.put_bytes-in-Name.ensures)
    -- returns-2
    (λ c. let w = c.put_bytes-in-Name.ensures in
    (writes_as (word_name c.in-Name.is) w, omega (arith, w.ends)))
    -- same-length-3
    (λ c. writes_length c.put_bytes-in-Forall.ensures)
    -- returns-3
    (λ c. let w = c.put_bytes-in-Forall.ensures in
    (writes_as (word_forall c.in-Forall.is) w, omega (arith, w.ends)))
    -- same-length-4
    (λ c. writes_length c.put_bytes-in-Limit.ensures)
    -- returns-4
    (λ c. let w = c.put_bytes-in-Limit.ensures in
    (writes_as (word_limit c.in-Limit.is) w, omega (arith, w.ends))))
