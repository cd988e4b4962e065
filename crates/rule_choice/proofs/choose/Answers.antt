-- A path of a single link, or of three.
use Rattle.std.proofs.Common.{sym, ◌∙◌}
use Rattle.facts.specs.Path.{path_of}
use Rattle.rule_choice.proofs.Nested.{choose_single, choose-three}
use Rattle.rule_choice.proofs.choose.Goals as goal

pub returns-then-s : goal.returns-then-s
unfolding path_of
returns-then-s c =
    let v = c.view_by.ensures in
    (rw (v.0, v.1) at c.choose_by.ensures) ∙ sym (choose_single _ _ _ _ _ c.args.order.now _ c.live-alive.ensures c.if-s.true _ _ v.2 v.3)

pub returns : goal.returns
unfolding path_of
returns c = c.choose_any.ensures ∙ sym (choose-three _ _ _ _ _ c.args.order.now _ c.live-alive.ensures c.if-s.false)
