-- The checks in their order.
use Rattle.std.proofs.lemmas.Result.{err_from_is_err_and}
use Rattle.joiner.proofs.Answers as law
use Rattle.joiner.proofs.find_named.Goals as goal

pub returns-in_err-f : goal.returns-in_err-f
returns-in_err-f c =
    let p = err_from_is_err_and c.from_residual.result c.from_residual.ensures.1 in
    rw (p.1, p.2) (law.named_refused c.args.first.now c.args.second.now c.args.line.now _ c.in_err-f.ensures)

pub find_literal-requires : goal.find_literal-requires
find_literal-requires c = (law.passing _ _ c.in_ok-f.ensures.0, law.passing _ _ c.in_ok-f.ensures.1)

pub returns : goal.returns
returns c = (
  law.named_found c.args.first.now c.args.second.now c.args.line.now c.in_ok-f.ensures.0 c.in_ok-f.ensures.1 c.find_literal.ensures.0,
  c.find_literal.ensures.1,
)
