-- Three bytes. Assumes nothing.
use native.Mathlib.Omega.{arith}
use borrow.Author.Rules.{rules}
use mathlib.Core.Path.{◌∙◌}
use Rattle.text.proofs.Writing.{writes_as, writes_then, writes_length}
use Rattle.formula_query.proofs.Laws.{literal-bytes}
use Rattle.formula_query.proofs.put_literal.Statement.{statement}
use Rattle.formula_query.proofs.put_literal.Tie as tie

pub put_literal_spec : {M : Type 1} → statement M
put_literal_spec =
    tie.close
    (tie.spec
    -- mul-place
    (λ c. omega arith)
    -- add-place
    (λ c. omega arith)
    -- shared-slice-read-sign-byte
    (λ c. omega arith)
    -- sign-byte-requires
    (λ c κs. search rules)
    -- put-byte-requires
    (λ c κs. omega arith)
    -- add-put-byte
    (λ c. omega arith)
    -- shared-slice-read-put-byte
    (λ c. omega arith)
    -- put-byte-requires-2
    (λ c κs. omega (arith, c.put_byte-signed.ensures.ends))
    -- add-put-byte-2
    (λ c. omega arith)
    -- shared-slice-read-put-byte-2
    (λ c. omega arith)
    -- put-byte-requires-3
    (λ c κs.
    omega (arith, c.put_byte-signed.ensures.ends, c.put_byte-left.ensures.ends))
    -- same-length
    (λ c.
    writes_length c.put_byte.ensures ∙ writes_length c.put_byte-left.ensures ∙ writes_length c.put_byte-signed.ensures)
    -- returns
    (λ c.
    writes_as (literal-bytes c.args.query.now c.args.at c.args.i _ c.sign_byte.ensures)
    (writes_then (writes_then c.put_byte-signed.ensures c.put_byte-left.ensures) c.put_byte.ensures)))
