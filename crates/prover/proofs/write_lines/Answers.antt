-- The derivation is the walk's, where it fits.
use Rattle.std.proofs.Common.{ℕ, ◌≤◌, ◌/◌, ◌%◌, arith, refl, sym, ap, ◌∙◌, subst}
use mathlib.Core.List.{List}
use lib.ListN.{set}
use Rattle.joins.specs.Pairs.{joined_of, Fits}
use Rattle.start.proofs.Laid.{started_fits}
use Rattle.walk.specs.Lines.{put_all}
use Rattle.link_query.proofs.Said.{few_links, terms-said}
use Rattle.prover.proofs.Outcomes.{our_walk_lem, start_steps, derivation_none, derivation_over, derivation_refuted}
use Rattle.form_checks.proofs.Laws.{said-links}
use Rattle.prover.proofs.Answers.{zeros_as}
use Rattle.prover.proofs.Endings.{refuted_lines}
use Rattle.prover.proofs.write_lines.Goals as goal

pub returns-then-buffer-lt2 : goal.returns-then-buffer-lt2
returns-then-buffer-lt2 c = let (ls, e) = refuted_lines _ c.requires.3 in derivation_none _ _ ls _ e c.if-buffer-lt2.true c.requires.2

pub limit-steps-requires : goal.limit-steps-requires
limit-steps-requires c = let p = c.requires in (few_links _ _ p.0, p.0.terms_within)

pub list-listed-requires : goal.list-listed-requires
list-listed-requires c =
    let p = c.requires in (
      p.0,
      subst Fits (sym c.start-goal.ensures) (started_fits p.0 p.1),
      omega arith,
      start_steps _ _ _ _ (joined_of c.start-goal.result) (said-links _ _) (sym (terms-said _ _ p.0)) c.limit-steps.ensures c.start-goal.ensures p.1,
    )

pub returns-in_default : goal.returns-in_default
returns-in_default c =
    let (ls, e) = refuted_lines _ c.requires.3 in
    let w = our_walk_lem _ _ _ _ (joined_of c.start-goal.result) (said-links _ _) (sym (terms-said _ _ c.requires.0)) c.limit-steps.ensures c.start-goal.ensures c.args.order.now in
    derivation_over _ _ ls _ _ _ e refl (c.in_default.ensures.more ls (w ∙ e)) c.most_lines-most.ensures.2 (zeros_as _ _ _ c.clear.ensures c.in_default.ensures.same_length)

pub returns-then-most-count : goal.returns-then-most-count
returns-then-most-count c =
    let (ls, e) = refuted_lines _ c.requires.3 in
    let w = our_walk_lem _ _ _ _ (joined_of c.start-goal.result) (said-links _ _) (sym (terms-said _ _ c.requires.0)) c.limit-steps.ensures c.start-goal.ensures c.args.order.now in
    derivation_over _ _ ls _ _ _ e (c.in-Some.ensures.whole ls (w ∙ e)).0 c.if-most-count.true c.most_lines-most.ensures.2
    (zeros_as _ _ _ c.clear-then-most-count.ensures c.in-Some.ensures.same_length)

pub returns : goal.returns
returns c =
    let (ls, e) = refuted_lines _ c.requires.3 in
    let w = our_walk_lem _ _ _ _ (joined_of c.start-goal.result) (said-links _ _) (sym (terms-said _ _ c.requires.0)) c.limit-steps.ensures c.start-goal.ensures c.args.order.now in
    let (n, b) = c.in-Some.ensures.whole ls (w ∙ e) in
    let m = c.most_lines-most.ensures in
    let count = c.in-Some.count in
    derivation_refuted _ _ ls _ _ e n (omega (arith, m.0, c.if-most-count.false)) (omega (arith, m.1, c.if-most-count.false))
    (ap (λ (x : List ℕ). set (set x 0 (count / 256)) 1 (count % 256)) (b ∙ ap (λ (x : List ℕ). put_all x 0 ls) c.requires.2))
