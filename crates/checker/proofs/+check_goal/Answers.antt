-- The head, one line, and then each branch in order, with a step less left to it.
use Rattle.std.proofs.Common.{ℕ, ◌<◌, ◌≤◌, sym, subst, arith, [], ap, ◌∙◌}
use Rattle.std.proofs.lemmas.Result.{err_from_is_err_and}
use Rattle.std.specs.Prelude.{Err}
use Rattle.joins.specs.Pairs.{joined_of, Fits}
use Rattle.link_query.specs.Said.{said}
use Rattle.link_query.proofs.Said.{terms-said}
use Rattle.branch.proofs.Steps.{branch_fits}
use Rattle.checking.specs.Fitting.{goal_of}
use Rattle.derivation_lines.specs.Judging.{Judged, JudgesGoal}
use Rattle.walk.proofs.Steps.{less_left}
use Rattle.checker.specs.Reading.{reading_of}
use Rattle.checker.proofs.Readings.{ruling-applies}
use Rattle.checker.proofs.Range.{ahead-some, ahead_numbers, ahead_linked}
use Rattle.checker.proofs.Goals.{head-judged, after_head, goal_ends, goal_wrong, branches_begin, branches_next, branches_wrong, branches_end, branch-ahead, reading_is}
use Rattle.checker.proofs.+check_goal.Goals as goal

pub returns-in_err-at : goal.returns-in_err-at
unfolding goal_of
returns-in_err-at t c =
    let q = said c.args.layout c.args.query.now in
    let e = err_from_is_err_and c.from_residual.result c.from_residual.ensures.1 in
    subst (λ (r : Judged). JudgesGoal q c.args.derivation.now c.args.count (goal_of (joined_of c.args.goal.now)) c.args.first r)
    (sym (e.1 ∙ ap Err e.2))
    (head-judged _ _ _ _ _ _ _ c.check_head.ensures _ c.in_err-at.was)

pub loop-i-init : goal.loop-i-init
loop-i-init t c = branches_begin _ _ _ c.requires.2 _ _ _ (reading_is reading_of _ _ _ c.read_line.ensures c.in-Applies.is)

pub make-requires : goal.make-requires
make-requires t c =
    let p = c.requires in
    let app = ruling-applies _ _ _ _ (reading_is reading_of _ _ _ c.read_line.ensures c.in-Applies.is) in
    let f = ahead_numbers _ p.1 _ _ p.3 _ _ _ _ _ app in
    (p.0.terms_within, ahead_linked _ p.1 _ _ _ _ app, f)

pub overflow_sub-left : goal.overflow_sub-left
overflow_sub-left t c = ahead-some _ c.requires.1 _ _ c.requires.3 _ (ruling-applies _ _ _ _ (reading_is reading_of _ _ _ c.read_line.ensures c.in-Applies.is))

pub check_goal-requires : goal.check_goal-requires
unfolding goal_of
check_goal-requires t c =
    let p = c.requires in
    let app = ruling-applies _ _ _ _ (reading_is reading_of _ _ _ c.read_line.ensures c.in-Applies.is) in
    let some = ahead-some _ p.1 _ _ p.3 _ app in
    let inside = subst (λ (j : ℕ). c.loop-i.i < j) c.count-i-end.ensures c.loop-i-test.true in (
      less_left _ _ some c.decreases,
      (
        p.0,
        p.1,
        p.2,
        branch-ahead _ [] 0 _ 0 _ _ _ _ _ _ (sym (terms-said _ _ p.0)) p.1 _ p.3 app _ _ inside c.make.ensures,
        subst Fits (sym c.make.ensures) (branch_fits _ _ _ p.0.terms_within),
        c.loop-i.invariant.inside,
      ),
    )

pub returns-in_err-to-in-Applies : goal.returns-in_err-to-in-Applies
unfolding goal_of
returns-in_err-to-in-Applies t c =
    let q = said c.args.layout c.args.query.now in
    let terms = sym (terms-said _ _ c.requires.0) in
    let inside = subst (λ (j : ℕ). c.loop-i.i < j) c.count-i-end.ensures c.loop-i-test.true in
    let e = err_from_is_err_and c.from_residual-in_err-to-in-Applies.result c.from_residual-in_err-to-in-Applies.ensures.1 in
    subst (λ (r : Judged). JudgesGoal q c.args.derivation.now c.args.count (goal_of (joined_of c.args.goal.now)) c.args.first r)
    (sym (e.1 ∙ ap Err e.2))
    (after_head _ _ _ _ _ _ _ c.check_head.ensures _ c.in_ok-at.was _
    (branches_wrong _ _ _ _ _ _ _ _ _ _ _ terms _ _ c.loop-i.invariant inside _ c.make.ensures _ c.check_goal.ensures _
    c.in_err-to-in-Applies.was))

pub loop-i-preserved : goal.loop-i-preserved
unfolding goal_of
loop-i-preserved t c =
    let terms = sym (terms-said _ _ c.requires.0) in
    let inside = subst (λ (j : ℕ). c.loop-i.i < j) c.count-i-end.ensures c.loop-i-test.true in
    branches_next _ _ _ _ _ _ _ _ _ _ _ terms _ _ c.loop-i.invariant inside _ c.make.ensures _ c.check_goal.ensures _
    c.in_ok-to-in-Applies.was

pub returns-in-Wrong : goal.returns-in-Wrong
unfolding goal_of
returns-in-Wrong t c =
    after_head _ _ _ _ _ _ _ c.check_head.ensures _ c.in_ok-at.was _
    (goal_wrong _ _ _ c.requires.2 _ _ (reading_is reading_of _ _ _ c.read_line.ensures c.in-Wrong.is))

pub returns-in-Ends : goal.returns-in-Ends
unfolding goal_of
returns-in-Ends t c =
    after_head _ _ _ _ _ _ _ c.check_head.ensures _ c.in_ok-at.was _
    (goal_ends _ _ _ c.requires.2 _ _ (reading_is reading_of _ _ _ c.read_line.ensures c.in-Ends.is))

pub returns-after-loop-i : goal.returns-after-loop-i
unfolding goal_of
returns-after-loop-i t c =
    let past = subst (λ (j : ℕ). j ≤ c.loop-i.i) c.count-i-end.ensures (omega arith) in
    after_head _ _ _ _ _ _ _ c.check_head.ensures _ c.in_ok-at.was _
    (branches_end _ _ _ _ _ _ _ _ _ _ _ (sym (terms-said _ _ c.requires.0)) _ _ c.loop-i.invariant past)
