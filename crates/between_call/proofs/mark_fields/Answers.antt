-- The marks so far and the literals left make the whole. Assumes nothing.
use Rattle.std.proofs.Common.{rules, ◌≡◌, ◌≤◌, sym, ◌∙◌, arith, length-set}
use Rattle.query.specs.LaysOut.{literal_in}
use Rattle.query.proofs.Literals.{listed}
use Rattle.report.specs.Bytes.{literals_at}
use Rattle.report.proofs.Held.{fields_none, fields_skip, fields_here, fields_all}
use Rattle.between_search.specs.Search.{entry}
use Rattle.between_call.proofs.Reporting.{node_in}
use Rattle.between_call.proofs.mark_fields.Goals as goal
use Rattle.between_call.proofs.mark_fields.Goals.{After-node_of-node}

-- the node of the literal's term
node_is : (c : After-node_of-node) → c.node_of-node.result.0 ≡ entry c.args.nodes.now (literal_in c.args.query.now c.args.at c.loop-i.i).right
node_is c = node_in _ _ _ _ c.node_of-node.ensures c.right.ensures

node_within : (c : After-node_of-node) → c.node_of-node.result.0 ≤ 16
node_within c = omega (arith, node_is c, (c.requires.1 c.loop-i.i (omega arith)).2)

pub loop-i-init : goal.loop-i-init
loop-i-init c = (search rules, fields_none _ _ _)

pub loop-i-preserved-then-not-sign : goal.loop-i-preserved-then-not-sign
loop-i-preserved-then-not-sign c =
    let plain = sym c.sign.ensures ∙ c.if-not-sign.true in
    (c.loop-i.invariant.0, fields_skip _ _ _ _ _ (omega arith) plain c.loop-i.invariant.1)

pub bounds-marks-v : goal.bounds-marks-v
bounds-marks-v c = omega (arith, node_within (goal.at.bounds-marks-v c).After-node_of-node)

pub bounds-marks-v-in-loop-i : goal.bounds-marks-v-in-loop-i
bounds-marks-v-in-loop-i c = omega (arith, node_within (goal.at.bounds-marks-v-in-loop-i c).After-node_of-node)

pub loop-i-preserved : goal.loop-i-preserved
loop-i-preserved c =
    let l = c.loop-i in
    let r = c.requires.1 l.i (omega arith) in
    let s = (goal.at.loop-i-preserved c).After-node_of-node in
    let plain = sym c.sign.ensures ∙ c.if-not-sign.false in
    let f = c.field-field.ensures in (
      simp length-set l.invariant.0,
      fields_here _ _ _ l.i l.marks l.invariant.0 (omega arith) plain _ _ _ (node_within s) (omega (arith, f)) c.only.ensures (node_is s) f l.invariant.1,
    )

pub returns : goal.returns
unfolding literals_at listed
returns c = fields_all _ _ _ _ _ (omega arith) c.loop-i.invariant.1
