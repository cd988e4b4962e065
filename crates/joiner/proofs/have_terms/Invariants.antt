-- What is left of the test is the whole.
use Rattle.std.proofs.Common.{◌≡◌}
use Rattle.logic.specs.Search.{all}
use Rattle.query.proofs.Literals.{listed}
use Rattle.joining.specs.Pairs.{pairs_of, has_terms}
use Rattle.joiner.proofs.Laws.{pair_in}
use Rattle.joiner.proofs.have_terms.Given as goal

abbrev pub invariant-loop-k : goal.invariant-loop-k
invariant-loop-k l = all (has_terms l.n l.m) (listed (pair_in l.pairs) l.count l.k) ≡ all (has_terms l.n l.m) (pairs_of l.pairs)
