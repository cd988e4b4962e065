-- The part of the query, as one text. Assumes nothing.
use borrow.Author.Rules.{rules}
use Rattle.rewriter.specs.Bytes.{cut}
use Rattle.rewriter.proofs.put_part.Statement.{statement}
use Rattle.rewriter.proofs.put_part.Tie as tie

pub put_part_spec : {M : Type 1} → statement M
unfolding cut
put_part_spec =
    tie.close
    (tie.spec
    -- sub-put-bytes
    (λ c. search rules)
    -- part-put-bytes-start
    (λ c. search rules)
    -- part-put-bytes-end
    (λ c. search rules)
    -- put-bytes-requires
    (λ c κs. search rules)
    -- same-length
    (λ c. search rules)
    -- returns
    (λ c. c.put_bytes.ensures))
