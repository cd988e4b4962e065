use Rattle.std.proofs.Common.{Bool, cond, sym, ap, ◌∙◌, arith}
use Rattle.between_search.specs.Tests.{used}
use Rattle.between_search.specs.Search.{entry}
use Rattle.between_tests.proofs.Laws.{used_more, used-none}
use Rattle.between_tests.proofs.used.Goals as goal
use Rattle.between_tests.proofs.used.Goals.{then-is_fresh, else-is_fresh}

pub loop-u-init : goal.loop-u-init
loop-u-init c = (omega arith, used-none _)

pub loop-u-preserved : goal.loop-u-preserved
loop-u-preserved c =
    let l = c.loop-u in
    elim c.if-is_fresh.branch [
      | then-is_fresh w ↦ rw w.count-is
          (omega arith, used_more _ _ _ 1 l.invariant.1 (sym (ap (λ (b : Bool). cond b 1 0) (sym c.is_fresh.ensures ∙ w.if-is_fresh.true))))
      | else-is_fresh w ↦ rw w.count-is
          (omega arith, omega (arith, used_more _ _ _ 0 l.invariant.1 (sym (ap (λ (b : Bool). cond b 1 0) (sym c.is_fresh.ensures ∙ w.if-is_fresh.false)))))
    ]

pub returns : goal.returns
returns c = (c.loop-u.invariant.1 ∙ ap (used (entry c.args.nodes.now)) (omega arith), omega arith)
