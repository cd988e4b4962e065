-- The bytes from i on are left. Assumes nothing.
use Rattle.std.proofs.Common.{◌∙◌}
use Rattle.routine_tokens.proofs.Rows.{fits-end, fits_short, fits_blank, fits_other, fits_next}
use Rattle.routine_tokens.proofs.fits.Goals as goal

pub returns-then-bytes-i : goal.returns-then-bytes-i
returns-then-bytes-i c = fits_short _ _ _ c.loop-i.i c.loop-i-test.true c.if-bytes-i.true ∙ c.loop-i.invariant

pub returns-then-r-eq32 : goal.returns-then-r-eq32
returns-then-r-eq32 c = fits_blank _ _ _ c.loop-i.i c.loop-i-test.true c.if-bytes-i.false c.if-r-eq32.true ∙ c.loop-i.invariant

pub returns-then-bytes-i-2 : goal.returns-then-bytes-i-2
returns-then-bytes-i-2 c =
    fits_other _ _ _ c.loop-i.i c.loop-i-test.true c.if-bytes-i.false c.if-r-eq32.false c.if-bytes-i-2.true ∙ c.loop-i.invariant

pub loop-i-preserved : goal.loop-i-preserved
loop-i-preserved c =
    fits_next _ _ _ c.loop-i.i c.loop-i-test.true c.if-bytes-i.false c.if-r-eq32.false c.if-bytes-i-2.false ∙ c.loop-i.invariant

pub returns : goal.returns
returns c = fits-end _ _ _ c.loop-i.i c.loop-i-test.false ∙ c.loop-i.invariant
