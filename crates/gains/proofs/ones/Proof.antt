-- The bits of the word are counted, of which it has no more than its width. Assumes nothing.
use borrow.Author.Rules.{rules}
use native.Mathlib.Omega.{arith}
use lib.Bits.{bit_and, and_le_l}
use lib.Count.{ones-le}
use Rattle.gains.proofs.Counts.{ones_up_to}
use Rattle.gains.proofs.ones.Statement.{statement}
use Rattle.gains.proofs.ones.Tie as tie

pub ones_spec : {M : Type 1} → statement M
ones_spec =
    tie.close
    (tie.spec
    -- up-to-requires
    (λ c κs. search rules)
    -- cast-result
    (λ c.
    let l = c.ranges.row.fits in
    let m = and_le_l c.args.row c.up_to.result in
    record { fits = omega (arith, ones-le 32 (bit_and c.args.row c.up_to.result) (omega arith)) })
    -- returns
    (λ c.
    ones_up_to c.args.row c.up_to.result c.ranges.row.fits c.up_to.ensures))
