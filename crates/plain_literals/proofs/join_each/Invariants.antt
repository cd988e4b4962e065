-- What is left comes out as the whole.
use Rattle.std.proofs.Common.{◌*◌, take, drop}
use Rattle.logic.specs.Query.{literals}
use Rattle.facts.specs.Path.{path_of}
use Rattle.joins.specs.Pairs.{joined_of}
use Rattle.query.specs.LaysOut.{literal_in}
use Rattle.plain_literals.specs.Taken.{Bounded}
use Rattle.plain_literals.proofs.Each.{join_behind, Left}
use Rattle.plain_literals.proofs.join_each.Given as goal

abbrev pub invariant-loop-i : goal.invariant-loop-i
invariant-loop-i l =
    Bounded (path_of l.joined.facts)
    × Left (join_behind l.n) (literals (take (3 * l.number) (drop l.at l.query))) l.number (literal_in l.query l.at) (joined_of l.fn.joined) l.i (joined_of l.joined)
