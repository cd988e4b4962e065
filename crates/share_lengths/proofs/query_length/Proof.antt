-- Assumes nothing.
use borrow.Author.Rules.{rules}
use Rattle.share_lengths.proofs.Lengths.{wanted-none, wanted_all, asked}
use Rattle.share_lengths.proofs.query_length.Statement.{statement}
use Rattle.share_lengths.proofs.query_length.Tie as tie

pub query_length_spec : {M : Type 1} → statement M
query_length_spec =
    tie.close
    (tie.spec
    -- bad-length-requires
    (λ c κs. search rules)
    -- returns
    (λ c. asked _ (wanted-none _ c.bad_length.ensures c.if-bad_length.true))
    -- byte-at-requires
    (λ c κs. search rules)
    -- mul-result
    (λ c. search rules)
    -- byte-at-requires-2
    (λ c κs. search rules)
    -- add-result
    (λ c. search rules)
    -- returns-2
    (λ c. asked _ (wanted_all _ c.bad_length.ensures c.if-bad_length.false c.byte_at.ensures.0 c.byte_at-2.ensures.0)))
