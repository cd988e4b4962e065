-- One byte behind the other. Assumes nothing.
use borrow.Author.Rules.{rules}
use Rattle.text.proofs.Writing.{writes_then}
use Rattle.rewriter.proofs.put_field.Statement.{statement}
use Rattle.rewriter.proofs.put_field.Tie as tie

pub put_field_spec : {M : Type 1} → statement M
put_field_spec =
    tie.close
    (tie.spec
    -- put-byte-requires
    (λ c κs. search rules)
    -- put-byte-requires-2
    (λ c κs. search rules)
    -- put-byte-requires-3
    (λ c κs. search rules)
    -- same-length
    (λ c. search rules)
    -- returns
    (λ c.
    writes_then c.put_byte-left.ensures (writes_then c.put_byte-right.ensures c.put_byte.ensures)))
