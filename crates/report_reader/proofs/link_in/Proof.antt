-- Assumes nothing.
use borrow.Author.Rules.{rules}
use Rattle.drawing.specs.Text.{link_in}
use Rattle.report_reader.proofs.link_in.Statement.{statement}
use Rattle.report_reader.proofs.link_in.Tie as tie

pub link_in_spec : {M : Type 1} → statement M
unfolding link_in
link_in_spec =
    tie.close
    (tie.spec
    -- byte-at-requires
    (λ c κs. search rules)
    -- returns
    (λ c. c.byte_at.ensures.0))
