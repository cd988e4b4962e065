-- Each arm is the row of its rule's own test.
use Rattle.std.proofs.Common.{ap}
use Rattle.rules.specs.Answers.{kind_of}
use Rattle.rules.specs.Tests.{pair_test, two_way}
use Rattle.rules.proofs.Rows.{near_bit, far_bit, pair_reflex, pair_trans1, pair_mutual}
use Rattle.rules.proofs.View.pair_row.Goals as goal

pub returns-in-Reflex : goal.returns-in-Reflex
returns-in-Reflex c =
    let v = c.args.self.now in
    λ y h. rw c.in-Reflex.is (pair_reflex v.link v.reach v.alive c.args.x.0 c.requires.0 y h _ c.without.ensures)

pub returns-in-Trans1 : goal.returns-in-Trans1
returns-in-Trans1 c =
    let v = c.args.self.now in
    λ y h. rw c.in-Trans1.is (pair_trans1 v.link v.reach v.alive c.args.x.0 c.requires.0 y h _ c.without-in-Trans1.ensures)

pub returns-in-Trans2 : goal.returns-in-Trans2
unfolding pair_test
returns-in-Trans2 c = let v = c.args.self.now in λ y h. rw c.in-Trans2.is (far_bit v.link v.reach c.args.x.0 y c.requires.0 h)

pub returns-in-Func : goal.returns-in-Func
unfolding pair_test
returns-in-Func c = let v = c.args.self.now in λ y h. rw c.in-Func.is (near_bit v.link v.reach c.args.x.0 y c.requires.0 h)

pub returns-in-Cycle : goal.returns-in-Cycle
unfolding pair_test
returns-in-Cycle c = let v = c.args.self.now in λ y h. rw c.in-Cycle.is (far_bit v.link v.reach c.args.x.0 y c.requires.0 h)

pub returns-in-Scc : goal.returns-in-Scc
unfolding pair_test two_way
returns-in-Scc c =
    let v = c.args.self.now in
    λ y h. rw c.in-Scc.is
    (pair_mutual v.link v.reach v.back (c.requires.1 (ap (λ (r : _). two_way (kind_of r)) c.in-Scc.is)) c.args.x.0 c.requires.0 y h _ _
    c.only.ensures c.without-in-Scc.ensures)

pub returns-in-Total : goal.returns-in-Total
unfolding pair_test
returns-in-Total c = let v = c.args.self.now in λ y h. rw c.in-Total.is (far_bit v.link v.reach c.args.x.0 y c.requires.0 h)

pub returns-in-Share : goal.returns-in-Share
unfolding pair_test two_way
returns-in-Share c =
    let v = c.args.self.now in
    λ y h. rw c.in-Share.is
    (pair_mutual v.link v.reach v.back (c.requires.1 (ap (λ (r : _). two_way (kind_of r)) c.in-Share.is)) c.args.x.0 c.requires.0 y h _ _
    c.only-in-Share.ensures c.without-in-Share.ensures)
