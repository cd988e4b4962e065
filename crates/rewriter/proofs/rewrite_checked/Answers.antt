-- A copy, or no room, or the rewritten query.
use Rattle.std.proofs.Common.{length, arith}
use Rattle.rewriter.proofs.Written.{bytes_long, bytes_low}
use Rattle.rewriter.proofs.Answers as law
use Rattle.rewriter.proofs.rewrite_checked.Goals as goal

pub returns-then-room-size : goal.returns-then-room-size
returns-then-room-size c =
    rw c.at.ensures (law.copy_short c.args.full c.args.query.now c.requires.0 (length c.args.out.now) c.if-count-eq0.true c.if-room-size.true _ c.requires.1)

pub put_bytes-length-requires : goal.put_bytes-length-requires
put_bytes-length-requires c = omega (arith, bytes_low c.args.full c.args.query.now c.requires.0)

pub returns-then-count-eq0 : goal.returns-then-count-eq0
returns-then-count-eq0 c =
    law.copy_done c.args.full c.args.query.now c.requires.0 (length c.args.out.now) c.if-count-eq0.true
    c.if-room-size.false _ _ _ c.requires.1 c.put_bytes-length.ensures

pub returns-then-n-eq16 : goal.returns-then-n-eq16
returns-then-n-eq16 c =
    rw c.at-then-n-eq16.ensures
    (law.no_term c.args.full c.args.query.now c.requires.0 (length c.args.out.now) c.if-count-eq0.false c.if-n-eq16.true _ c.requires.1)

pub returns-then-fields-count-gt60 : goal.returns-then-fields-count-gt60
returns-then-fields-count-gt60 c =
    rw c.at-then-fields-count-gt60.ensures
    (law.no_literal c.args.full c.args.query.now c.requires.0 (length c.args.out.now) c.if-count-eq0.false c.if-fields-count-gt60.true _ c.requires.1)

pub returns-then-room-size-2 : goal.returns-then-room-size-2
returns-then-room-size-2 c =
    rw c.at-then-room-size-2.ensures
    (law.no_output c.args.full c.args.query.now c.requires.0 (length c.args.out.now) c.if-count-eq0.false c.if-room-size-2.true _ c.requires.1)

pub put_query-length-requires : goal.put_query-length-requires
put_query-length-requires c = (
  omega (arith, c.if-n-eq16.false, c.requires.0.laid.four.terms_within),
  omega arith,
  omega (arith, c.requires.0.laid.four.terms_within, c.requires.0.laid.four.equal_within, c.requires.0.laid.four.reach_within),
  bytes_long c.args.full c.args.query.now c.requires.0,
  c.if-fields-count-gt60.false,
)

pub returns : goal.returns
returns c =
    law.done c.args.full c.args.query.now c.requires.0 (length c.args.out.now) c.if-count-eq0.false
    (omega (arith, c.if-n-eq16.false, c.requires.0.laid.four.terms_within)) c.if-fields-count-gt60.false c.if-room-size-2.false _ _ _ c.requires.1
    c.put_query-length.ensures
