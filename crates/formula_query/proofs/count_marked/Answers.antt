use Rattle.std.proofs.Common.{ℕ, ◌≡◌, ◌+◌, ◌<◌, ◌≤◌, Bool, cond, sym, ap, ◌∙◌, subst, arith}
use Rattle.formula_query.specs.Kept.{mark}
use Rattle.formula_query.proofs.Laws.{count_next, count_end, more_bound}
use Rattle.formula_query.proofs.count_marked.Goals.{then-is_marked, else-is_marked}
use Rattle.formula_query.proofs.count_marked.Goals as goal

pub loop-i-preserved : goal.loop-i-preserved
loop-i-preserved c =
    let i = c.loop-i.i in let k = c.loop-i.kept in let p = mark c.args.marks.now c.args.code in
    let e : c.if-is_marked.kept ≡ cond (p (i + 1)) (k + 1) k =
    elim c.if-is_marked.branch [
      | then-is_marked w ↦ w.kept-is ∙ sym (ap (λ (b : Bool). cond b (k + 1) k) (sym c.is_marked.ensures ∙ w.if-is_marked.true))
      | else-is_marked w ↦ w.kept-is ∙ sym (ap (λ (b : Bool). cond b (k + 1) k) (sym c.is_marked.ensures ∙ w.if-is_marked.false))
    ] in (
      more_bound (p (i + 1)) _ k i e c.loop-i.invariant.0,
      λ ls l. count_next p ls i k _ (subst (λ (n : ℕ). i < n) (sym l) c.loop-i-test.true) e ∙ c.loop-i.invariant.1 ls l,
    )

pub returns : goal.returns
returns c = (
  omega arith,
  λ ls l. sym (count_end (mark c.args.marks.now c.args.code) ls c.loop-i.i c.loop-i.kept
      (subst (λ (n : ℕ). n ≤ c.loop-i.i) (sym l) c.loop-i-test.false)) ∙ c.loop-i.invariant.1 ls l,
)
