-- One of the two cases.
use Rattle.std.proofs.Common.{sym, ◌∙◌}
use Rattle.completion.proofs.Completing.{new_basin, new_tree}
use Rattle.completion.proofs.Shown.new_link.Goals as goal

pub returns-then-in_basin : goal.returns-then-in_basin
returns-then-in_basin c = c.basin_link.ensures ∙ sym (new_basin _ _ _ _ (sym c.in_basin.ensures ∙ c.if-in_basin.true))

pub returns : goal.returns
returns c = c.tree_link.ensures ∙ sym (new_tree _ _ _ _ (sym c.in_basin.ensures ∙ c.if-in_basin.false))
