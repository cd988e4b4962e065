-- The goal of the start, and then nothing.
use Rattle.std.proofs.Common.{arith, sym, subst}
use Rattle.joins.specs.Pairs.{joined_of, Fits}
use Rattle.link_query.proofs.Said.{terms-said}
use Rattle.start.proofs.Laid.{started_fits}
use Rattle.derivation_lines.proofs.Lines.{shaped, shaped_long}
use Rattle.form_checks.proofs.Laws.{said-links, layout_links}
use Rattle.checker.proofs.Answered.{start_ahead, answer_found}
use Rattle.checker.proofs.judge.Goals as goal

pub count_of-count-requires : goal.count_of-count-requires
count_of-count-requires c = shaped_long _ c.requires.2

pub limit-steps-requires : goal.limit-steps-requires
limit-steps-requires c = let p = c.requires in (layout_links _ _ p.0, p.0.terms_within)

pub check_goal-judged-requires : goal.check_goal-judged-requires
check_goal-judged-requires c =
    let p = c.requires in
    let made = c.start-goal.ensures in
    let shape = shaped _ p.2 _ c.count_of-count.ensures.0 in
    let ahead = start_ahead _ p.1 (joined_of c.start-goal.result) _ _ _ made (said-links _ _) (sym (terms-said _ _ p.0)) c.limit-steps.ensures in
    (p.0, p.1, shape, ahead, subst Fits (sym made) (started_fits p.0 p.1), omega arith)

pub first_wrong-requires : goal.first_wrong-requires
first_wrong-requires c = (shaped _ c.requires.2 _ c.count_of-count.ensures.0).bounded

pub returns : goal.returns
returns c =
    let shape = shaped _ c.requires.2 _ c.count_of-count.ensures.0 in
    answer_found _ _ _ shape (joined_of c.start-goal.result) c.start-goal.ensures _ c.check_goal-judged.ensures _ c.first_wrong.ensures
