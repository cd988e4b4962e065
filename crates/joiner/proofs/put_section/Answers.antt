-- The count, and one part behind the other.
use Rattle.std.proofs.Common.{arith}
use Rattle.text.proofs.Writing.{writes_then}
use Rattle.joiner.proofs.Laws.{literals_long}
use Rattle.joiner.proofs.put_section.Goals as goal

pub put_literals-next-requires : goal.put_literals-next-requires
put_literals-next-requires c =
    (c.requires.fits.0, omega (arith, c.put_byte-begin.ensures.ends, c.requires.fits.2, c.requires.fits.3), c.requires.small.0)

pub put_literals-requires : goal.put_literals-requires
put_literals-requires c = (
  c.requires.fits.1,
  omega (
    arith,
    c.put_byte-begin.ensures.ends,
    c.put_literals-next.ensures.ends,
    literals_long c.args.first.0.now c.args.first.1 c.args.first.2 0 0 c.requires.fits.0,
    c.requires.fits.2,
    c.requires.fits.3,
  ),
  c.requires.small.1,
)

pub returns : goal.returns
returns c = writes_then c.put_byte-begin.ensures (writes_then c.put_literals-next.ensures c.put_literals.ensures)
