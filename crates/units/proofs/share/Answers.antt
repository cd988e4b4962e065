-- What is found in rows whose bits are known is a place where SHARE applies.
use Rattle.std.proofs.Common.{sym, ◌∙◌, arith}
use Rattle.units.proofs.Places.{placed, lowest_in, share_placed}
use Rattle.units.proofs.share.Goals as goal

pub returns-in-Some : goal.returns-in-Some
returns-in-Some c =
    let g = c.args.graph.now in
    λ n s e. placed n s _ _ _ _ _ _ c.at.ensures
    (share_placed n g.link g.reach s g.by e _ _ _ _ (omega arith) c.both_ways-both.ensures (omega arith, sym c.has.ensures ∙ c.if-not-has.false)
    (lowest_in _ _ c.in-Some.ensures))
