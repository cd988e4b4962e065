-- No pair, and the facts.
use Rattle.std.proofs.Common.{ℕ, List, ap}
use Rattle.logic.specs.Facts.{Joined, unjoined}
use Rattle.facts.specs.Path.{path_of}
use Rattle.joins.proofs.Joined.of.Goals as goal

pub returns : goal.returns
unfolding unjoined
returns c = ap (λ (ps : List (ℕ × ℕ)). let j : Joined = record { pairs = ps; facts = path_of c.args.facts } in j) c.none.ensures
