-- What is found in rows whose bits are known is a place where FUNC applies.
use Rattle.std.proofs.Common.{sym, ◌∙◌, arith}
use Rattle.facts.specs.Path.{path_of}
use Rattle.units.proofs.Places.{placed, lowest_in, func_placed}
use Rattle.probing.proofs.Asked.{asked}
use Rattle.probing.proofs.func.Goals as goal

pub missed-far-requires : goal.missed-far-requires
missed-far-requires c = let y = lowest_in _ _ c.in-Some.ensures in (omega arith, y.0)

pub some_soon_clashes-requires : goal.some_soon_clashes-requires
some_soon_clashes-requires c =
    let y = lowest_in _ _ c.in-Some.ensures in
    let m = asked (path_of c.args.s.now) _ _ _ _ _ _ c.at-m.ensures c.requires.1 (omega arith) y.0 (omega arith) in
    (c.requires.0, m.0, m.1)

pub returns-then-some_soon_clashes : goal.returns-then-some_soon_clashes
returns-then-some_soon_clashes c =
    let g = c.args.graph.now in
    λ n s e. placed n s _ _ _ _ _ _ c.at-m.ensures
    (func_placed n g.link g.reach s g.by e _ _ _ _ (omega arith) (lowest_in _ _ c.in-Some.ensures) c.missed-far.ensures
    (omega arith, sym c.has.ensures ∙ c.if-has.true))
