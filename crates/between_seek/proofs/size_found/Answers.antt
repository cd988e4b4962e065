-- A heap of numbered nodes is looked for first. Assumes nothing.
use Rattle.std.proofs.Common.{sym, ◌∙◌}
use Rattle.between_seek.proofs.Laws.{size_none, size-some}
use Rattle.between_seek.proofs.size_found.Goals as goal

pub returns-in_err-links_found : goal.returns-in_err-links_found
returns-in_err-links_found c = rw c.from_residual.ensures (size_none _ _ (sym c.in_err-links_found.ensures))

pub returns : goal.returns
returns c = c.links_found-2.ensures ∙ size-some _ _ _ (sym c.in_ok-links_found.ensures)
