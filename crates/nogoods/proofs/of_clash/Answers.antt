use mathlib.Core.Path.{sym, ◌∙◌}
use Rattle.nogoods.proofs.Nogoods.{nogood_clash}
use Rattle.nogoods.proofs.of_clash.Goals as goal

pub returns-then-is_clash : goal.returns-then-is_clash
returns-then-is_clash c = nogood_clash _ c.requires.1 _ _ (sym c.is_clash.ensures ∙ c.if-is_clash.true)

pub returns-then-is_clash-2 : goal.returns-then-is_clash-2
returns-then-is_clash-2 c = nogood_clash _ c.requires.1 _ _ (sym c.is_clash-2.ensures ∙ c.if-is_clash-2.true)
