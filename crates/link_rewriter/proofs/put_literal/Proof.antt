-- One byte behind the other. Assumes nothing.
use borrow.Author.Rules.{rules}
use Rattle.text.proofs.Writing.{writes_then}
use Rattle.link_rewriter.proofs.put_literal.Statement.{statement}
use Rattle.link_rewriter.proofs.put_literal.Tie as tie

pub put_literal_spec : {M : Type 1} → statement M
put_literal_spec =
    tie.close
    (tie.spec
    -- put-byte-requires
    (λ c κs. search rules)
    -- put-byte-requires-2
    (λ c κs. search rules)
    -- put-byte-requires-3
    (λ c κs. search rules)
    -- put-byte-requires-4
    (λ c κs. search rules)
    -- same-length
    (λ c. search rules)
    -- returns
    (λ c.
    writes_then c.put_byte-link.ensures
    (writes_then c.put_byte-left.ensures (writes_then c.put_byte-right.ensures c.put_byte.ensures))))
