-- The two that are found are a pair more, for which there is room; where none are found, nothing is left to settle.
use Rattle.std.proofs.Common.{◌-◌, sym, ◌∙◌, arith}
use Rattle.joins.specs.Pairs.{joined_of}
use Rattle.doubled.proofs.Twos.{doubled_below}
use Rattle.joins.proofs.Joins.{fits_turn, pairs-count, made_behind, settle-none, settle_done, settle_turn}
use Rattle.joins.proofs.Joined.settle.Goals as goal

pub returns-in_default : goal.returns-in_default
returns-in_default c = sym (c.loop-turn.invariant ∙ settle_done _ (joined_of c.loop-turn.self) (c.args.n - c.loop-turn._turn) (sym c.in_default.ensures))

pub unite-requires : goal.unite-requires
unite-requires c =
    let l = c.loop-turn in
    let room = fits_turn _ (joined_of l.self) (c.args.n - l._turn) _ _ (omega arith) (sym c.in-Some.ensures) _ l.invariant c.requires.1 in
    omega (arith, room, pairs-count l.self.pairs)

pub invariant_of-unite : goal.invariant_of-unite
invariant_of-unite c = let h = doubled_below _ _ _ _ (sym c.in-Some.ensures) in record { lower = h.0; few = omega arith }

pub loop-turn-preserved : goal.loop-turn-preserved
loop-turn-preserved c =
    let l = c.loop-turn in
    l.invariant
    ∙ settle_turn _ (joined_of l.self) (c.args.n - l._turn) _ _ _ (omega arith) (sym c.in-Some.ensures)
    ∙ made_behind (joined_of l.self) _ _ _ _ _ c.unite.ensures.pairs c.unite.ensures.facts

pub returns : goal.returns
returns c = sym (c.loop-turn.invariant ∙ settle-none _ _ _ (omega arith))
