-- The entries from t on are left.
use Rattle.std.proofs.Common.{ap, ◌∙◌, arith}
use Rattle.text.proofs.Writing.{part_from, part_more, part_all, writes_as}
use Rattle.joining.specs.Joined.{raised_entry}
use Rattle.joiner.proofs.Laws.{one, rest_next, rest_end, entry_at, entries_all, entry_small}
use Rattle.joiner.proofs.put_entries.Goals as goal

pub loop-t-init : goal.loop-t-init
loop-t-init c = (part_from _ _ (entries_all c.args.query.now c.args.count c.args.n c.requires.0), omega arith)

pub overflow_cast-raised_entry : goal.overflow_cast-raised_entry
overflow_cast-raised_entry c =
    omega (
      arith,
      c.raised_entry.ensures ∙ ap (raised_entry c.args.n) c.byte_at-e.ensures,
      entry_small c.args.query.now c.args.count c.args.n c.requires.0 c.requires.3 c.loop-t.t c.loop-t-test.true,
    )

pub loop-t-preserved : goal.loop-t-preserved
loop-t-preserved c = (
  part_more c.loop-t.invariant.0 (rest_next one (entry_at c.args.query.now c.args.n) c.args.count c.loop-t.t c.loop-t-test.true)
      (writes_as (ap one (c.raised_entry.ensures ∙ ap (raised_entry c.args.n) c.byte_at-e.ensures)) c.put_byte-next.ensures),
  omega (arith, c.loop-t.invariant.1, c.put_byte-next.ensures.ends),
)

pub returns : goal.returns
returns c = part_all c.loop-t.invariant.0 (rest_end one (entry_at c.args.query.now c.args.n) c.args.count c.loop-t.t c.loop-t-test.false)
