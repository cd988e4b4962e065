-- The rows from k on are left. Assumes nothing.
use Rattle.std.proofs.Common.{arith, sym, ap, ◌∙◌}
use Rattle.routine_tokens.specs.Tokens.{fits}
use Rattle.routine_tokens.proofs.Rows.{row_here, row_next, row-end, suffix}
use Rattle.routine_tokens.proofs.row_of.Goals as goal

pub returns-then-fits : goal.returns-then-fits
returns-then-fits c =
    let s = c.args in
    let e = sym (c.fits.ensures ∙ ap (fits _ _) (suffix s.table.now _)) ∙ c.if-fits.true in
    (c.loop-k-test.true, omega (arith, row_here s.whole s.bytes.now s.table.now s.count c.loop-k.k c.loop-k-test.true e, c.loop-k.invariant))

pub loop-k-preserved : goal.loop-k-preserved
loop-k-preserved c =
    let s = c.args in
    let e = sym (c.fits.ensures ∙ ap (fits _ _) (suffix s.table.now _)) ∙ c.if-fits.false in
    omega (arith, row_next s.whole s.bytes.now s.table.now s.count c.loop-k.k c.loop-k-test.true e, c.loop-k.invariant)

pub returns : goal.returns
returns c =
    let s = c.args in
    omega (arith, row-end s.whole s.bytes.now s.table.now s.count c.loop-k.k c.loop-k-test.false, c.loop-k.invariant)
