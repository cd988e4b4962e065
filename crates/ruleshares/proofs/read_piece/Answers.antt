-- A read that fills the space, which is not empty, reads something.
use Rattle.std.proofs.Common.{rules, arith, refl, ◌-◌, length}
use borrow.Rule.Slice.PartMut.{take_put}
use Rattle.sharing.proofs.Loops.{reads_none, reads_piece}
use Rattle.ruleshares.proofs.read_piece.Goals as goal

pub returns-then-was : goal.returns-then-was
returns-then-was g c = rw c.if-was.true (reads_none _ _ c.requires refl)

pub returns : goal.returns
returns g c =
    let bytes = c.args.input.now in let kept = c.args.was.filled in let read = c.read_full-read in
    reads_piece bytes kept (omega (arith, c.requires)) _ read.result c.if-was.false (search rules)
    (take_put kept (length bytes - kept) bytes read.new.buffer (omega (arith, c.requires))) (search rules)
