use Rattle.std.proofs.Common.{sym, ◌∙◌}
use Rattle.text.proofs.Writing.{writes_none, writes_as}
use Rattle.formula_query.proofs.Laws.{put-none, put_some}
use Rattle.formula_query.proofs.put_marked_literal.Goals as goal

pub returns-then-not-is_marked : goal.returns-then-not-is_marked
returns-then-not-is_marked c =
    writes_as (put-none _ _ (sym c.is_marked.ensures ∙ c.if-not-is_marked.true)) (writes_none c.args.out.now c.args.to)

pub returns : goal.returns
returns c = writes_as (put_some _ _ (sym c.is_marked.ensures ∙ c.if-not-is_marked.false)) c.put_literal.ensures
