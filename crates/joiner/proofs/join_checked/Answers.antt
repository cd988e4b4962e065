-- The pair list, the limits, and then the query.
use Rattle.std.proofs.Common.{sym, ◌∙◌, arith}
use Rattle.joiner.proofs.Query as made
use Rattle.joiner.proofs.Joins as call
use Rattle.joiner.proofs.join_checked.Goals as goal

pub returns-then-not-is_pair_list : goal.returns-then-not-is_pair_list
returns-then-not-is_pair_list c =
    rw c.at.ensures
    (call.not_listed c.args.first.now c.args.second.now c.args.pairs.now c.args.f c.args.s c.requires.0 c.requires.1 _ _
    (sym c.is_pair_list.ensures ∙ c.if-not-is_pair_list.true) c.requires.2)

pub byte_at-count-requires : goal.byte_at-count-requires
byte_at-count-requires c =
    omega (
      arith,
      made.pairs_long c.args.first.now c.args.second.now c.args.pairs.now c.args.f c.args.s c.requires.0 c.requires.1
          (sym c.is_pair_list.ensures ∙ c.if-not-is_pair_list.false),
    )

pub keeps_limits-requires : goal.keeps_limits-requires
keeps_limits-requires c =
    let f = c.args.f in
    let s = c.args.s in
    let first = c.args.first.now in
    let second = c.args.second.now in
    let pairs = c.args.pairs.now in
    let listed = sym c.is_pair_list.ensures ∙ c.if-not-is_pair_list.false in (
      made.first_bounded first second pairs f s c.requires.0 c.requires.1 listed,
      made.second_bounded first second pairs f s c.requires.0 c.requires.1 listed,
      omega (arith, made.pairs_few first second pairs f s c.requires.0 c.requires.1 listed, c.byte_at-count.ensures),
    )

pub returns-then-not-keeps_limits : goal.returns-then-not-keeps_limits
returns-then-not-keeps_limits c =
    let listed = sym c.is_pair_list.ensures ∙ c.if-not-is_pair_list.false in
    rw c.at-then-not-keeps_limits.ensures
    (call.limit_passed c.args.first.now c.args.second.now c.args.pairs.now c.args.f c.args.s c.requires.0 c.requires.1 listed _ _
    (sym (made.limits_same c.args.first.now c.args.second.now c.args.pairs.now c.args.f c.args.s c.requires.0 c.requires.1 listed _ c.byte_at-count.ensures)
    ∙ (sym c.keeps_limits.ensures ∙ c.if-not-keeps_limits.true)) c.requires.2)

pub put_query-length-requires : goal.put_query-length-requires
put_query-length-requires c =
    let listed = sym c.is_pair_list.ensures ∙ c.if-not-is_pair_list.false in (
      c.requires.0,
      c.requires.1,
      listed,
      sym (made.limits_same c.args.first.now c.args.second.now c.args.pairs.now c.args.f c.args.s c.requires.0 c.requires.1 listed _ c.byte_at-count.ensures)
          ∙ (sym c.keeps_limits.ensures ∙ c.if-not-keeps_limits.false),
    )

pub returns-then-out-length : goal.returns-then-out-length
returns-then-out-length c =
    let listed = sym c.is_pair_list.ensures ∙ c.if-not-is_pair_list.false in
    rw c.at-then-out-length.ensures
    (call.too_short c.args.first.now c.args.second.now c.args.pairs.now c.args.f c.args.s c.requires.0 c.requires.1 listed
    (sym (made.limits_same c.args.first.now c.args.second.now c.args.pairs.now c.args.f c.args.s c.requires.0 c.requires.1 listed _ c.byte_at-count.ensures)
    ∙ (sym c.keeps_limits.ensures ∙ c.if-not-keeps_limits.false)) _ _ _ c.requires.2
    c.put_query-length.ensures _ c.if-out-length.true c.clear.ensures)

pub returns : goal.returns
returns c =
    let listed = sym c.is_pair_list.ensures ∙ c.if-not-is_pair_list.false in
    call.fits c.args.first.now c.args.second.now c.args.pairs.now c.args.f c.args.s c.requires.0 c.requires.1 listed
    (sym (made.limits_same c.args.first.now c.args.second.now c.args.pairs.now c.args.f c.args.s c.requires.0 c.requires.1 listed _ c.byte_at-count.ensures)
    ∙ (sym c.keeps_limits.ensures ∙ c.if-not-keeps_limits.false)) _ _ _ c.requires.2
    c.put_query-length.ensures c.if-out-length.false
