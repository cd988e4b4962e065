-- What is settled of the start is how our walk ends.
use mathlib.Core.Path.{sym, ◌∙◌}
use Rattle.link_query.proofs.Said.{few_links, terms-said}
use Rattle.prover.proofs.Outcomes.{start_steps}
use Rattle.form_checks.proofs.Laws.{said-links}
use Rattle.prover.proofs.Endings.{start_reached, settles_refuted, settles_open}
use Rattle.prover.proofs.settled.Goals as goal

pub limit-steps-requires : goal.limit-steps-requires
limit-steps-requires c = let p = c.requires in (few_links _ _ p.0, p.0.terms_within)

pub settle-kind-requires : goal.settle-kind-requires
settle-kind-requires c =
    let p = c.requires in (
      p.0,
      p.1,
      p.2,
      start_reached _ _ c.start-goal.ensures,
      start_steps _ _ _ _ _ (said-links _ _) (sym (terms-said _ _ p.0)) c.limit-steps.ensures c.start-goal.ensures p.1,
    )

pub returns-then-is_refuted : goal.returns-then-is_refuted
returns-then-is_refuted c =
    let p = c.requires in
    settles_refuted _ p.1 _ p.2 _ _ _ _ (said-links _ _) (sym (terms-said _ _ p.0)) c.limit-steps.ensures c.start-goal.ensures _ _ c.settle-kind.ensures
    (sym c.is_refuted.ensures ∙ c.if-is_refuted.true)

pub returns-else-is_refuted : goal.returns-else-is_refuted
returns-else-is_refuted c =
    let p = c.requires in
    settles_open _ p.1 _ p.2 _ _ _ _ (said-links _ _) (sym (terms-said _ _ p.0)) c.limit-steps.ensures c.start-goal.ensures _ _ c.settle-kind.ensures
    (sym c.is_refuted.ensures ∙ c.if-is_refuted.false)
