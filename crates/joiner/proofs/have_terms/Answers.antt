-- What is left of the test is the whole.
use Rattle.std.proofs.Common.{sym, ap, ◌∙◌}
use Rattle.logic.specs.Search.{all}
use Rattle.joining.specs.Pairs.{has_terms}
use Rattle.joiner.proofs.Laws.{pair_in, pairs_are, test_end, test_fails, test_next, pair_is}
use Rattle.joiner.proofs.have_terms.Goals as goal

pub loop-k-init : goal.loop-k-init
loop-k-init c = ap (all (has_terms c.args.n c.args.m)) (sym (pairs_are c.args.pairs.now c.args.count c.requires))

pub returns-then-not-has_terms : goal.returns-then-not-has_terms
returns-then-not-has_terms c =
    sym (test_fails (has_terms c.args.n c.args.m) (pair_in c.args.pairs.now) c.args.count c.loop-k.k c.loop-k-test.true
    (sym (c.has_terms.ensures ∙ ap (has_terms c.args.n c.args.m) (pair_is c.byte_at-a.ensures c.byte_at-b.ensures)) ∙ c.if-not-has_terms.true))
    ∙ c.loop-k.invariant

pub loop-k-preserved : goal.loop-k-preserved
loop-k-preserved c =
    sym (test_next (has_terms c.args.n c.args.m) (pair_in c.args.pairs.now) c.args.count c.loop-k.k c.loop-k-test.true
    (sym (c.has_terms.ensures ∙ ap (has_terms c.args.n c.args.m) (pair_is c.byte_at-a.ensures c.byte_at-b.ensures)) ∙ c.if-not-has_terms.false))
    ∙ c.loop-k.invariant

pub returns : goal.returns
returns c =
    sym (test_end (has_terms c.args.n c.args.m) (pair_in c.args.pairs.now) c.args.count c.loop-k.k c.loop-k-test.false) ∙ c.loop-k.invariant
