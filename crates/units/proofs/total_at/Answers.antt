-- What is found in rows whose bits are known is a place where TOTAL applies.
use Rattle.std.proofs.Common.{sym, ◌∙◌, arith}
use Rattle.units.proofs.Places.{placed, in_left, lowest_left, total_placed}
use Rattle.units.proofs.total_at.Goals as goal

pub returns-in-Some : goal.returns-in-Some
returns-in-Some c =
    let g = c.args.graph.now in
    let near = in_left _ _ _ (omega arith, sym c.has.ensures ∙ c.if-not-has.false) in
    λ n s e. placed n s _ _ _ _ _ _ c.at.ensures (total_placed n g.link g.reach s g.by e _ _ _ _ c.requires near c.unordered.ensures (lowest_left _ _ _ c.in-Some.ensures))
