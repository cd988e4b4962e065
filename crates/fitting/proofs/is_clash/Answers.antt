-- By its section.
use Rattle.fitting.proofs.Clashes.{in_none, in_partnered, clash_fields, clash_equalities, clash_reachability}
use Rattle.fitting.proofs.is_clash.Goals as goal

pub returns-then-clash-eq4 : goal.returns-then-clash-eq4
returns-then-clash-eq4 c = clash_fields _ _ _ _ _ _ _ c.is_field_clash.ensures c.if-clash-eq4.true

pub returns-then-j-ne0 : goal.returns-then-j-ne0
returns-then-j-ne0 c = in_partnered _ _ _ _ _ c.if-clash-eq4.false c.if-j-ne0.true

pub returns-then-clash-eq2 : goal.returns-then-clash-eq2
returns-then-clash-eq2 c = clash_equalities _ _ _ _ _ _ _ c.is_equality_clash.ensures c.if-clash-eq2.true c.if-j-ne0.false

pub returns-then-clash-eq3 : goal.returns-then-clash-eq3
returns-then-clash-eq3 c = clash_reachability _ _ _ _ _ _ _ c.is_reach_clash.ensures c.if-clash-eq3.true c.if-j-ne0.false

pub returns : goal.returns
returns c = in_none _ _ _ _ _ c.if-clash-eq4.false c.if-clash-eq2.false c.if-clash-eq3.false
