-- The marks of the conjunction, its query, and the verdict on it. Assumes nothing.
use native.Mathlib.Omega.{arith}
use borrow.Author.Rules.{rules}
use Prim.Native.Nat.{ℕ, ◌≤◌}
use mathlib.Core.Path.{sym, ◌∙◌, subst}
use mathlib.Core.Bool.{Bool, false}
use lib.ListN.{replicate, length-replicate}
use lib.Seq.{length-take-le}
use Rattle.formula_call.proofs.FormulaLaws.{one_decided}
use Rattle.formula_call.proofs.decide_one.Statement.{statement}
use Rattle.formula_call.proofs.decide_one.Tie as tie

pub decide_one_spec : {M : Type 1} → statement M
decide_one_spec =
    tie.close
    (tie.spec
    -- mark-literals-requires
    (λ c κs. (c.requires.1, length-replicate {A = Bool} 256 false))
    -- slice-aggregate-put-query
    (λ c. search rules)
    -- put-query-requires
    (λ c κs. c.requires.0)
    -- array-share-prefix-conjunction
    (λ c. omega (arith, c.put_query-end.ensures.0))
    -- slice-aggregate-verdict
    (λ c.
    sym (length-take-le _ _ (subst (λ (n : ℕ). c.put_query-end.result ≤ n)
    (sym (c.put_query-end.auto.out ∙ length-replicate {A = ℕ} 561 0)) c.put_query-end.ensures.0)))
    -- verdict-requires
    (λ c κs. search rules)
    -- same-length
    (λ c. c.verdict.auto.report)
    -- returns
    (λ c.
    λ f p. one_decided c.args.order.now c.args.query.now c.args.nodes.now c.args.report.now (replicate 561 0)
    c.put_query-end.new.out c.verdict.new.report c.args.root c.args.k
    c.put_query-end.result c.mark_literals.new.marks c.verdict.result f
    (c.mark_literals.ensures.1 f p) c.put_query-end.ensures.1
    (subst (λ (n : ℕ). c.put_query-end.result ≤ n) (sym (length-replicate {A = ℕ} 561 0)) c.put_query-end.ensures.0)
    c.verdict.ensures))
