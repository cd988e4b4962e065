-- One bit is set in the rows of link k, and nothing else changes.
use Rattle.std.proofs.Common.{rules, arith}
use Rattle.facts.specs.Path.{path_of}
use Rattle.facts.proofs.Path.{links_few, add_reach_rows}
use Rattle.facts.proofs.Facts.add_reach.Goals as goal

pub add-requires : goal.add-requires
unfolding path_of
add-requires c = let p = c.requires in (p.0.0, omega (arith, p.0.1, (links_few c.args.self.now.single).1), p.1, p.2, search rules)

pub returns : goal.returns
unfolding path_of
returns c = add_reach_rows _ _ _ _ _ _ _ _ c.requires.0.1 c.add.ensures.0
