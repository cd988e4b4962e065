-- Each arm is the row of its rule's own test.
use Rattle.std.proofs.Common.{ap}
use Rattle.rows.proofs.Bits.{bit-none, bit_power}
use Rattle.rules.specs.Answers.{kind_of}
use Rattle.rules.specs.Tests.{third_test, two_way}
use Rattle.rules.proofs.Rows.{third_trans2, third_func, third_scc, third_total, third_share}
use Rattle.rules.proofs.View.third_row.Goals as goal

pub returns-in-Reflex : goal.returns-in-Reflex
unfolding third_test
returns-in-Reflex c = λ z l. rw c.in-Reflex.is (bit_power 0 z)

pub returns-in-Trans1 : goal.returns-in-Trans1
unfolding third_test
returns-in-Trans1 c = λ z l. rw c.in-Trans1.is (bit_power 0 z)

pub returns-in-Trans2 : goal.returns-in-Trans2
returns-in-Trans2 c =
    let v = c.args.self.now in
    λ z l. rw c.in-Trans2.is (third_trans2 v.link v.reach c.args.x.0 c.args.y.0 z c.requires.0 c.requires.1 l _ c.without.ensures)

pub returns-in-Func : goal.returns-in-Func
returns-in-Func c =
    let v = c.args.self.now in
    λ z l. rw c.in-Func.is
    (third_func v.link v.reach c.args.x.0 c.args.y.0 z c.requires.0 c.requires.1 l _ _ _ c.only.ensures c.without-in-Func.ensures
    c.without-in-Func-2.ensures)

pub returns-in-Cycle : goal.returns-in-Cycle
unfolding third_test
returns-in-Cycle c = λ z l. rw c.in-Cycle.is (bit-none z)

pub returns-in-Scc : goal.returns-in-Scc
unfolding two_way
returns-in-Scc c =
    let v = c.args.self.now in
    λ z l. rw c.in-Scc.is
    (third_scc v.link v.reach v.back (c.requires.2 (ap (λ (r : _). two_way (kind_of r)) c.in-Scc.is)) c.args.x.0 c.args.y.0 z c.requires.0
    c.requires.1 l _ c.without-in-Scc.ensures)

pub returns-in-Total : goal.returns-in-Total
unfolding two_way
returns-in-Total c =
    let v = c.args.self.now in
    λ z l. rw c.in-Total.is
    (third_total v.link v.reach v.back (c.requires.2 (ap (λ (r : _). two_way (kind_of r)) c.in-Total.is)) c.args.x.0 c.args.y.0 z
    c.requires.0 c.requires.1 l _ _ c.without-in-Total.ensures c.without-in-Total-2.ensures)

pub returns-in-Share : goal.returns-in-Share
returns-in-Share c =
    let v = c.args.self.now in
    λ z l. rw c.in-Share.is (third_share v.link v.reach c.args.x.0 c.args.y.0 z c.requires.0 c.requires.1 l)
