use Rattle.std.proofs.Common.{refl, inr, ap, arith, is_some}
use Rattle.held_bytes.proofs.Moves.{order_lent}
use Rattle.share_stream.proofs.Rounds.{going_start, stops, taken-some, made_fits, long, next_turn, turn_ends, wait_cut, wait_none}
use Rattle.share_stream.proofs.take_turns.Goals as goal
use Rattle.share_stream.proofs.take_turns.Goals.{then-text-made-lt128-via-then-text-made-lt128, then-text-made-lt128-via-else-text-made-lt128+then-must_wait}

pub loop-text-init : goal.loop-text-init
loop-text-init c =
    record {
      past_order = omega arith;
      held_fits = omega arith;
      made_fits = omega arith;
      none_yet = λ h. refl;
      going = going_start _ _ c.min-ordered.ensures _ c.args.text.now _;
    }

pub returns-then-text-made-lt128-clause-processes : goal.returns-then-text-made-lt128-clause-processes
returns-then-text-made-lt128-clause-processes c =
    let at = c.loop-text.invariant in
    elim c.then-text-made-lt128.branch [
      | then-text-made-lt128-via-then-text-made-lt128 w ↦ stops _ _ c.min-ordered.ensures _ at.past_order at.held_fits at.going (taken-some at.none_yet (omega arith))
      | then-text-made-lt128-via-else-text-made-lt128+then-must_wait w ↦ stops _ _ c.min-ordered.ensures _ at.past_order at.held_fits at.going
          (inr (wait_cut w.must_wait.ensures w.if-must_wait.true))
    ]

pub returns-in_default-clause-processes : goal.returns-in_default-clause-processes
returns-in_default-clause-processes c =
    let at = c.loop-text.invariant in
    turn_ends _ _ c.min-ordered.ensures _ at.past_order at.held_fits c.loop-text.text c.loop-text.made at.going (wait_none c.must_wait.ensures c.if-must_wait.false)
    (order_lent _ _ c.min-ordered.ensures) c.first_turn-turn.ensures.takes (omega (arith, c.if-text-made-lt128.false)) (ap is_some c.in_default.is)

pub loop-text-smaller : goal.loop-text-smaller
loop-text-smaller c =
    let at = c.loop-text.invariant in
    let n = next_turn _ _ c.min-ordered.ensures _ at.past_order at.held_fits c.loop-text.text c.loop-text.made at.going (wait_none c.must_wait.ensures c.if-must_wait.false)
    (order_lent _ _ c.min-ordered.ensures) c.first_turn-turn.ensures.takes (omega (arith, c.if-text-made-lt128.false)) c.in-Some.taken
    (rw c.in-Some.is at c.first_turn-turn.ensures.passes) (ap is_some c.in-Some.is) in
    omega (arith, n.at_fits, n.grows)

pub loop-text-preserved : goal.loop-text-preserved
loop-text-preserved c =
    let at = c.loop-text.invariant in
    let n = next_turn _ _ c.min-ordered.ensures _ at.past_order at.held_fits c.loop-text.text c.loop-text.made at.going (wait_none c.must_wait.ensures c.if-must_wait.false)
    (order_lent _ _ c.min-ordered.ensures) c.first_turn-turn.ensures.takes (omega (arith, c.if-text-made-lt128.false)) c.in-Some.taken
    (rw c.in-Some.is at c.first_turn-turn.ensures.passes) (ap is_some c.in-Some.is) in
    let fits = made_fits _ _ c.min-ordered.ensures _ at.past_order at.held_fits c.loop-text.text c.loop-text.made at.going (wait_none c.must_wait.ensures c.if-must_wait.false)
    (order_lent _ _ c.min-ordered.ensures) c.first_turn-turn.ensures.takes (omega (arith, c.if-text-made-lt128.false)) in
    let same = long _ _ c.min-ordered.ensures _ at.past_order at.held_fits c.loop-text.text c.loop-text.made at.going (wait_none c.must_wait.ensures c.if-must_wait.false)
    (order_lent _ _ c.min-ordered.ensures) c.first_turn-turn.ensures.takes (omega (arith, c.if-text-made-lt128.false)) in
    record {
      past_order = omega (arith, n.grows);
      held_fits = n.at_fits;
      made_fits = omega (arith, fits, same);
      none_yet = λ h. absurd (omega (arith, n.grows));
      going = n.goes_on;
    }
