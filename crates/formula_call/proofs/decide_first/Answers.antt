use Rattle.std.proofs.Common.{ℕ, ◌≡◌, ◌<◌, ◌≤◌, [], length, get_or, refl, sym, ap, ◌∙◌, subst}
use lib.ListN.{length-replicate}
use Rattle.logic.specs.Query.{decode}
use Rattle.logic.specs.Calls.{verdict_call}
use Rattle.formula.specs.Expansion.{expand}
use Rattle.formula.specs.Meaning.{restricted}
use Rattle.encoding.specs.QueryBytes.{encode}
use Rattle.prover.specs.Promise.{Does}
use Rattle.formula_call.proofs.FormulaLaws.{unsatisfiable_blank, turn_passed, turn_taken, turns_over, picks_at}
use Rattle.formula_call.proofs.decide_first.Goals as goal

pub loop-k-init : goal.loop-k-init
loop-k-init c = (c.requires.2, λ f text g. refl)

pub decide_one-requires : goal.decide_one-requires
decide_one-requires c = (c.requires.0, (c.requires.1.0, picks_at c.requires.1.1 c.loop-k-test.true))

pub returns-then-is_satisfiable : goal.returns-then-is_satisfiable
returns-then-is_satisfiable c f text g =
    turn_taken c.args.order.now c.args.query.now text c.args.report.now f c.loop-k.k
    (subst (λ (n : ℕ). c.loop-k.k < n) g.counted c.loop-k-test.true) c.decide_one.result c.decide_one.new.report
    (subst (λ (n : ℕ). Does (verdict_call
    (record { order = c.args.order.now; query = encode (restricted (decode c.args.query.now) (get_or (expand f) c.loop-k.k [])); room = n }))
    c.decide_one.result c.decide_one.new.report)
    (ap length c.loop-k.invariant.0 ∙ length-replicate (length c.args.report.now) 0)
    (c.decide_one.ensures f (picks_at g c.loop-k-test.true)))
    (sym c.is_satisfiable.ensures ∙ c.if-is_satisfiable.true) (c.loop-k.invariant.1 f text g)

pub loop-k-preserved : goal.loop-k-preserved
loop-k-preserved c = (
  let f = c.requires.1.0 in let g = c.requires.1.1 in
      unsatisfiable_blank _ c.decide_one.result c.decide_one.new.report
      (subst (λ (n : ℕ). Does (verdict_call
      (record { order = c.args.order.now; query = encode (restricted (decode c.args.query.now) (get_or (expand f) c.loop-k.k [])); room = n }))
      c.decide_one.result c.decide_one.new.report)
      (ap length c.loop-k.invariant.0 ∙ length-replicate (length c.args.report.now) 0)
      (c.decide_one.ensures f (picks_at g c.loop-k-test.true)))
      (sym c.is_satisfiable.ensures ∙ c.if-is_satisfiable.false),
  λ f text g. c.loop-k.invariant.1 f text g
      ∙ turn_passed c.args.order.now c.args.query.now text c.args.report.now f c.loop-k.k
      (subst (λ (n : ℕ). c.loop-k.k < n) g.counted c.loop-k-test.true) c.decide_one.result c.decide_one.new.report
      (subst (λ (n : ℕ). Does (verdict_call
      (record { order = c.args.order.now; query = encode (restricted (decode c.args.query.now) (get_or (expand f) c.loop-k.k [])); room = n }))
      c.decide_one.result c.decide_one.new.report)
      (ap length c.loop-k.invariant.0 ∙ length-replicate (length c.args.report.now) 0)
      (c.decide_one.ensures f (picks_at g c.loop-k-test.true)))
      (sym c.is_satisfiable.ensures ∙ c.if-is_satisfiable.false),
)

pub returns : goal.returns
returns c f text g =
    turns_over c.args.order.now c.args.query.now text c.args.report.now f c.loop-k.k c.loop-k.report
    (subst (λ (n : ℕ). n ≤ c.loop-k.k) g.counted c.loop-k-test.false) c.loop-k.invariant.0 (c.loop-k.invariant.1 f text g)
