-- The row of b, where it is a number of rows. Assumes nothing.
use borrow.Author.Rules.{rules}
use Rattle.units.proofs.Places.{alone_in, alone_above}
use Rattle.units.proofs.alone.Statement.{statement}
use Rattle.units.proofs.alone.Tie as tie

pub alone_spec : {M : Type 1} → statement M
alone_spec =
    tie.close
    (tie.spec
    -- only-requires
    (λ c κs. search rules)
    -- returns
    (λ c. alone_in _ _ c.if-b-lt17.true c.only.ensures)
    -- returns-2
    (λ c. alone_above _ c.if-b-lt17.false))
