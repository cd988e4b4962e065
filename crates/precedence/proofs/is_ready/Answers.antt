-- Not placed, and not held back.
use Rattle.std.proofs.Common.{sym, ◌∙◌}
use Rattle.precedence.proofs.Turns.{ready-placed, ready-free, placed_by}
use Rattle.precedence.proofs.is_ready.Goals as goal

pub returns-then-contains : goal.returns-then-contains
returns-then-contains c =
    sym (ready-placed _ _ _ (sym (c.contains.ensures.value ∙ placed_by _ c.args.placed.now) ∙ c.if-contains.true))

pub returns : goal.returns
returns c =
    c.is_free.ensures ∙ sym (ready-free _ _ _ (sym (c.contains.ensures.value ∙ placed_by _ c.args.placed.now) ∙ c.if-contains.false))
