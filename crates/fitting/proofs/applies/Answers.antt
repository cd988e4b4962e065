-- CYCLE or another rule, by the rows of the link.
use Rattle.std.proofs.Common.{sym, ◌∙◌, ap}
use Rattle.logic.specs.Facts.{live}
use Rattle.facts.specs.Path.{path_of}
use Rattle.facts.proofs.Path.{link_few}
use Rattle.rules.specs.Answers.{kind_of}
use Rattle.fitting.proofs.Laws.{applies_halves, applies-cycle}
use Rattle.fitting.proofs.applies.Goals as goal

pub rows_of-link-requires : goal.rows_of-link-requires
rows_of-link-requires c = let p = c.requires.1 in (p.0, link_few c.args.s.now _ p)

pub rows_of-reach-requires : goal.rows_of-reach-requires
rows_of-reach-requires c = let p = c.requires.1 in (p.0, link_few c.args.s.now _ p)

pub returns-then-is_not_cycle : goal.returns-then-is_not_cycle
returns-then-is_not_cycle c =
    let m = c.args.m in
    let s = c.args.s.now in
    let h = sym c.is_not_cycle.ensures ∙ c.if-is_not_cycle.true in
    applies_halves c.args.n s _ c.requires.1 _ _ c.rows_of-link.ensures c.rows_of-reach.ensures (kind_of m.rule) _ _ _ h _
    (rw c.term.ensures at (c.is_allowed.ensures (live c.args.n (path_of s)) c.is_live-alive.ensures h))

pub returns : goal.returns
returns c =
    let m = c.args.m in
    let s = c.args.s.now in
    applies-cycle c.args.n s _ c.requires.1 _ _ c.rows_of-link.ensures c.rows_of-reach.ensures (kind_of m.rule) _
    (sym c.is_not_cycle.ensures ∙ c.if-is_not_cycle.false) _ (c.is_round.ensures (live c.args.n (path_of s)))
