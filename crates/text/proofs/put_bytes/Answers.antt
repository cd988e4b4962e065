use Rattle.std.proofs.Common.{refl}
use Rattle.text.proofs.Writing.{part_from, part_more, left_first}
use Rattle.text.proofs.put_bytes.Goals as goal

pub loop-byte-init : goal.loop-byte-init
loop-byte-init c = part_from _ _ refl

pub loop-byte-preserved : goal.loop-byte-preserved
loop-byte-preserved c = part_more c.loop-byte.invariant (left_first c.args.bytes.now c.loop-byte.byte-index c.loop-byte-test.true) c.put_byte-to.ensures
