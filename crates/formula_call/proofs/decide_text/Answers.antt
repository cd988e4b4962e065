use Rattle.std.proofs.Common.{ℕ, ◌≡◌, ◌-◌, ◌≤◌, Bool, [], ◌∷◌, drop, subst, arith}
use lib.ListN.{length-replicate}
use Rattle.std.specs.Prelude.{Ok, Err}
use Rattle.formula.specs.Grammar.{Letter}
use Rattle.formula.specs.Reader.{read_text, done}
use Rattle.formula_reader.specs.Tree.{has}
use Rattle.formula_reader.specs.Answers.{FoundAs}
use Rattle.formula_call.proofs.FormulaLaws.{has-present, counts_small, text_long, text_refused, text_many, text-decided, formula_stands, formula_many}
use Rattle.formula_call.proofs.decide_text.Goals as goal

pub returns-then-text-gt512 : goal.returns-then-text-gt512
returns-then-text-gt512 c =
    rw (c.refused.ensures, c.at.ensures)
    (text_long c.args.order.now c.args.query.now c.args.text.now c.args.report.now c.args.report.now c.if-text-gt512.true c.requires.1)

pub read_text-requires : goal.read_text-requires
read_text-requires c = (c.if-text-gt512.false, counts_small c.args.layout c.args.query.now c.requires.0, length-replicate {A = ℕ} 2048 0)

pub returns-in-Err : goal.returns-in-Err
returns-in-Err c =
    rw c.refused-in-Err.ensures
    (text_refused c.args.order.now c.args.query.now c.args.text.now c.args.report.now c.args.report.now c.if-text-gt512.false _ _
    c.in-Err.ensures.ranged
    (subst (λ (h : Letter → ℕ → Bool). FoundAs (Err c.in-Err.refusal) c.args.text.now c.read_text.new.nodes (read_text h 32 c.args.text.now))
    (has-present c.args.layout c.args.query.now c.requires.0) c.in-Err.ensures.found_as) c.requires.1)

pub returns-then-count-gt-MOST_CONJUNCTIONS : goal.returns-then-count-gt-MOST_CONJUNCTIONS
returns-then-count-gt-MOST_CONJUNCTIONS c =
    let h = subst (λ (h : Letter → ℕ → Bool). FoundAs (Ok c.in-Ok.parsed) c.args.text.now c.read_text.new.nodes (read_text h 32 c.args.text.now))
    (has-present c.args.layout c.args.query.now c.requires.0) c.in-Ok.ensures.found_as in
    rw (c.refused-then-count-gt-MOST_CONJUNCTIONS.ensures, c.at-then-count-gt-MOST_CONJUNCTIONS.ensures)
    (text_many c.args.order.now c.args.query.now c.args.text.now c.args.report.now c.args.report.now c.if-text-gt512.false h.0 _ h.1
    (formula_many _ _ c.count_at-count.result h.0 h.2 c.count_at-count.ensures c.if-count-gt-MOST_CONJUNCTIONS.true) c.requires.1)

pub decide_first-requires : goal.decide_first-requires
decide_first-requires c =
    let layout = c.args.layout in let text = c.args.text.now in let nodes = c.read_text.new.nodes in
    let g = c.in-Ok.ensures.ranged in let h = c.in-Ok.ensures.found_as in (
      c.requires.0,
      (
        h.0,
        formula_stands (layout.equal_count ∷ layout.reach_count ∷ layout.field_count ∷ 0 ∷ []) text nodes (c.in-Ok.parsed.used - 1) c.count_at-count.result h.0
            (drop c.in-Ok.parsed.next text) (counts_small layout c.args.query.now c.requires.0) h.1 h.2
            (omega (arith, g.grown, g.bounded, g.within, c.if-text-gt512.false)) c.count_at-count.ensures c.if-count-gt-MOST_CONJUNCTIONS.false,
      ),
      c.requires.1,
    )

pub returns : goal.returns
returns c =
    let layout = c.args.layout in let text = c.args.text.now in let nodes = c.read_text.new.nodes in
    let g = c.in-Ok.ensures.ranged in let h = c.in-Ok.ensures.found_as in
    let s = formula_stands (layout.equal_count ∷ layout.reach_count ∷ layout.field_count ∷ 0 ∷ []) text nodes (c.in-Ok.parsed.used - 1) c.count_at-count.result h.0
    (drop c.in-Ok.parsed.next text) (counts_small layout c.args.query.now c.requires.0) h.1 h.2
    (omega (arith, g.grown, g.bounded, g.within, c.if-text-gt512.false)) c.count_at-count.ensures c.if-count-gt-MOST_CONJUNCTIONS.false in
    text-decided c.args.order.now c.args.query.now c.args.text.now c.args.report.now c.decide_first.new.report
    c.if-text-gt512.false h.0 (drop c.in-Ok.parsed.next text)
    (subst (λ (x : Letter → ℕ → Bool). read_text x 32 text ≡ done h.0 (drop c.in-Ok.parsed.next text)) (has-present layout c.args.query.now c.requires.0) h.1)
    c.decide_first.result (subst (λ (n : ℕ). n ≤ 64) s.counted s.few) (c.decide_first.ensures h.0 text s)
