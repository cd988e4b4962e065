-- The tests in their order.
use Rattle.std.proofs.Common.{arith}
use Rattle.joiner.proofs.Answers as law
use Rattle.joiner.proofs.find_literal.Goals as goal

pub returns-then-begins-ne9 : goal.returns-then-begins-ne9
returns-then-begins-ne9 c =
    rw c.at.ensures
    (law.back_other c.args.first.now c.args.second.now c.args.line.now c.requires.0.accepted c.requires.1.accepted
    c.byte_of-begins.ensures.0 c.byte_of-section.ensures.0 c.byte_of-k.ensures.0 c.if-begins-ne9.true)

pub returns-then-k-eq0 : goal.returns-then-k-eq0
returns-then-k-eq0 c =
    rw c.at-then-k-eq0.ensures
    (law.back_zero c.args.first.now c.args.second.now c.args.line.now c.requires.0.accepted c.requires.1.accepted
    c.byte_of-begins.ensures.0 c.byte_of-section.ensures.0 c.byte_of-k.ensures.0 c.if-begins-ne9.false c.if-k-eq0.true)

pub place_in-requires : goal.place_in-requires
place_in-requires c = (c.requires.0.laid, omega (arith, c.if-k-eq0.false), omega (arith, c.if-k-i.true, c.count_in-i.ensures.1))

pub returns-then-k-i : goal.returns-then-k-i
returns-then-k-i c =
    law.back_first c.args.first.now c.args.second.now c.args.line.now c.requires.0.accepted c.requires.1.accepted
    c.byte_of-begins.ensures.0 c.byte_of-section.ensures.0 c.byte_of-k.ensures.0
    c.if-begins-ne9.false c.count_in-i.ensures.0 c.if-k-eq0.false c.if-k-i.true c.place_in.ensures

pub place_in-requires-then-k-last : goal.place_in-requires-then-k-last
place_in-requires-then-k-last c =
    (c.requires.1.laid, omega (arith, c.if-k-i.false), omega (arith, c.if-k-last.true, c.if-k-i.false, c.count_in-m.ensures.1))

pub returns-then-k-last : goal.returns-then-k-last
returns-then-k-last c =
    law.back_second c.args.first.now c.args.second.now c.args.line.now c.requires.0.accepted c.requires.1.accepted
    c.byte_of-begins.ensures.0 c.byte_of-section.ensures.0 c.byte_of-k.ensures.0
    c.if-begins-ne9.false c.count_in-i.ensures.0 c.count_in-m.ensures.0 c.if-k-i.false c.if-k-last.true c.place_in-then-k-last.ensures

pub returns : goal.returns
returns c =
    rw c.at-2.ensures
    (law.back_past c.args.first.now c.args.second.now c.args.line.now c.requires.0.accepted c.requires.1.accepted
    c.byte_of-begins.ensures.0 c.byte_of-section.ensures.0 c.byte_of-k.ensures.0
    c.if-begins-ne9.false c.count_in-i.ensures.0 c.count_in-m.ensures.0 c.if-k-i.false c.if-k-last.false)
