-- Assumes nothing.
use borrow.Author.Rules.{rules}
use Rattle.logic.specs.Shown.{size_in}
use Rattle.report_reader.proofs.size_in.Statement.{statement}
use Rattle.report_reader.proofs.size_in.Tie as tie

returns : tie.Need-returns
unfolding size_in
returns c = c.byte_at.ensures

pub size_in_spec : {M : Type 1} → statement M
size_in_spec =
    tie.close
    (tie.spec
    -- byte-at-requires
    (λ c κs. search rules)
    returns)
