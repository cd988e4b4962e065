-- The terms from the next on are left.
use Rattle.std.proofs.Common.{[], ◌∷◌, refl, ap, arith}
use Rattle.text.proofs.Writing.{part_from, part_more, part_all, writes_as}
use Rattle.link_rewriter.proofs.Loops.{terms_next, terms_end}
use Rattle.link_rewriter.proofs.put_entries.Goals as goal

pub loop-byte-init : goal.loop-byte-init
loop-byte-init c = (part_from _ _ refl, omega arith)

pub loop-byte-preserved : goal.loop-byte-preserved
loop-byte-preserved c = (
  part_more (part_more c.loop-byte.invariant.0
      (terms_next c.args.terms.now c.loop-byte.byte-index (omega arith))
      (writes_as (ap (λ b. b ∷ []) c.link_before.ensures) c.put_byte-term.ensures)) refl c.put_byte-next.ensures,
  omega (arith, c.loop-byte.invariant.1, c.put_byte-term.ensures.ends, c.put_byte-next.ensures.ends),
)

pub returns : goal.returns
returns c = part_all c.loop-byte.invariant.0 (terms_end c.args.terms.now c.loop-byte.byte-index (omega arith) (omega arith))
