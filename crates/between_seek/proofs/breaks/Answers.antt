-- The tests in their order. Assumes nothing.
use Rattle.between_seek.proofs.Breaking.{by_unnamed, by_nil, by_field, by_equal, by_reach, by_between}
use Rattle.between_seek.proofs.breaks.Goals as goal

pub returns-then-named-left : goal.returns-then-named-left
returns-then-named-left c = let p = c.requires in by_unnamed _ _ _ _ _ _ p.0 p.1 _ c.used-named.ensures.0 c.if-named-left.true

pub returns-then-nil_breaks : goal.returns-then-nil_breaks
returns-then-nil_breaks c =
    let p = c.requires in
    by_nil _ _ _ _ _ _ p.0 p.1 _ c.used-named.ensures.0 c.if-named-left.false _ c.nil_breaks.ensures c.if-nil_breaks.true

pub returns-then-field_breaks : goal.returns-then-field_breaks
returns-then-field_breaks c =
    let p = c.requires in
    by_field _ _ _ _ _ _ p.0 p.1 _ c.used-named.ensures.0 c.if-named-left.false _ c.nil_breaks.ensures c.if-nil_breaks.false
    _ c.field_breaks.ensures c.if-field_breaks.true

pub returns-then-pairs_break : goal.returns-then-pairs_break
returns-then-pairs_break c =
    let p = c.requires in
    by_equal _ _ _ _ _ _ p.0 p.1 _ c.used-named.ensures.0 c.if-named-left.false _ c.nil_breaks.ensures c.if-nil_breaks.false
    _ c.field_breaks.ensures c.if-field_breaks.false _ c.pairs_break.ensures c.if-pairs_break.true

pub returns-then-pairs_break-2 : goal.returns-then-pairs_break-2
returns-then-pairs_break-2 c =
    let p = c.requires in
    by_reach _ _ _ _ _ _ p.0 p.1 _ c.used-named.ensures.0 c.if-named-left.false _ c.nil_breaks.ensures c.if-nil_breaks.false
    _ c.field_breaks.ensures c.if-field_breaks.false _ c.pairs_break.ensures c.if-pairs_break.false
    _ c.pairs_break-2.ensures c.if-pairs_break-2.true

pub returns : goal.returns
returns c =
    let p = c.requires in
    by_between _ _ _ _ _ _ p.0 p.1 _ c.used-named.ensures.0 c.if-named-left.false _ c.nil_breaks.ensures c.if-nil_breaks.false
    _ c.field_breaks.ensures c.if-field_breaks.false _ c.pairs_break.ensures c.if-pairs_break.false
    _ c.pairs_break-2.ensures c.if-pairs_break-2.false _ c.triples_break.ensures
