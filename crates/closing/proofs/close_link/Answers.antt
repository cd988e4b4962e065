-- The rows with what REFLEX and TRANS1 give are handed on.
use Rattle.closing.proofs.Rows.{link-closed, seeded_kept}
use Rattle.closing.proofs.close_link.Goals as goal

pub returns : goal.returns
returns c = (
  link-closed _ _ _ _ (c.pass_on.ensures.0 _ _ _ c.seed.ensures.0)
      (λ a b e. c.pass_on.ensures.1 a b (c.seed.ensures.1 a b e))
      (seeded_kept _ _ _ _ c.pass_on.ensures.1 c.seed.ensures.2) c.pass_on.ensures.2,
  c.pass_on.ensures.3,
)
