-- The terms in order: the first above v, and 0 where all were passed.
use Rattle.std.proofs.Common.{ℕ, not, ◌&&◌, eqb, sym, ap, ap₂, ◌∙◌, arith}
use Rattle.std.proofs.Math.Option.{Option, get_or}
use Rattle.rows.proofs.Loops.{find_end, find_here, find_next}
use Rattle.completion.proofs.Choice.{tree_search}
use Rattle.completion.proofs.Shown.tree_link.Goals as goal

pub returns-then-reached-u : goal.returns-then-reached-u
returns-then-reached-u c =
    let here = ap₂ (λ a b. a && (not (eqb c.loop-u.u c.args.v.0) && b)) (sym c.holds-reached.ensures) (sym c.covers_all-covers.ensures) ∙ c.if-reached-u.true in
    sym (tree_search _ _ _ ∙ ap (λ (o : Option ℕ). get_or o 0) (c.loop-u.invariant ∙ find_here _ _ _ (omega arith) here))

pub loop-u-preserved : goal.loop-u-preserved
loop-u-preserved c =
    let other = ap₂ (λ a b. a && (not (eqb c.loop-u.u c.args.v.0) && b)) (sym c.holds-reached.ensures) (sym c.covers_all-covers.ensures) ∙ c.if-reached-u.false in
    c.loop-u.invariant ∙ find_next _ _ _ (omega arith) other

pub returns : goal.returns
returns c = sym (tree_search _ _ _ ∙ ap (λ (o : Option ℕ). get_or o 0) (c.loop-u.invariant ∙ find_end _ _ _ (omega arith)))

pub returns-else-reached-u : goal.returns-else-reached-u
returns-else-reached-u c =
    let other = ap₂ (λ a b. a && (not (eqb c.loop-u.u c.args.v.0) && b)) (sym c.holds-reached.ensures) (sym c.covers_all-covers.ensures) ∙ c.if-reached-u.false in
    sym (tree_search _ _ _ ∙ ap (λ (o : Option ℕ). get_or o 0) (c.loop-u.invariant ∙ find_next _ _ _ (omega arith) other ∙ find_end _ _ _ (omega arith)))
