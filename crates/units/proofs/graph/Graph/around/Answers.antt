-- The links are followed from the successor of x.
use Rattle.std.proofs.Common.{arith, refl}
use Rattle.facts.specs.Path.{links_in}
use Rattle.link_steps.proofs.Around.{next_le, steps_bound}
use Rattle.units.proofs.Rounds.{on_bits, off_bits}
use Rattle.units.proofs.graph.Graph.around.Goals as goal

pub follow-back-requires : goal.follow-back-requires
follow-back-requires c = let l = next_le c.args.n (links_in c.args.self.now.link) c.args.x in let e = c.next-first.ensures in (omega arith, omega arith)

pub overflow_add-steps : goal.overflow_add-steps
overflow_add-steps c = let l = steps_bound _ _ _ _ _ _ c.follow-back.ensures.0 in omega arith

pub returns : goal.returns
returns c =
    let g = c.args.self.now in
    let f = c.follow-back.ensures in
    record {
      steps_within = omega arith;
      on_round = on_bits c.args.n g.link g.reach c.args.x _ _ _ _ _ c.next-first.ensures f.0 refl (omega arith) f.2 c.only.ensures;
      off_round = off_bits c.args.n g.link g.reach c.args.x _ _ _ _ _ c.next-first.ensures f.0 refl (omega arith) f.2 c.only.ensures _ c.without-off.ensures c.requires.1;
    }
