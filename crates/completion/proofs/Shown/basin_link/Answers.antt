-- The two lowest terms that begin a path say whether there is one path.
use Rattle.std.proofs.Common.{rules, sym, ap, ◌∙◌, ℕ, arith}
use Rattle.std.proofs.Math.Option.{Option, get_or}
use Rattle.rows.proofs.Successors.{found_positive}
use Rattle.completion.proofs.Links.{found_or}
use Rattle.completion.proofs.Rows.{heads_none, heads_one, heads_several}
use Rattle.completion.proofs.Shown.basin_link.Goals as goal

pub returns-in_default : goal.returns-in_default
returns-in_default c = sym (heads_none _ (omega arith) _ _ _ _ c.heads-row.ensures (sym c.in_default.ensures))

pub overflow_sub-row : goal.overflow_sub-row
overflow_sub-row c = let row = c.heads-row in found_positive _ _ (omega arith) row.result row.ensures (search rules) _ (sym c.in-Some.ensures)

pub returns-in_default-first : goal.returns-in_default-first
returns-in_default-first c =
    let row = c.heads-row in
    sym (heads_one _ (omega arith) _ _ _ row.result row.ensures (search rules) _ (sym c.in-Some.ensures) (sym c.in_default-first.ensures))

pub returns : goal.returns
returns c =
    let row = c.heads-row in
    found_or c.other_path.result _ c.unwrap_or.ensures
    ∙ sym
    (heads_several _ (omega arith) _ _ _ row.result row.ensures (search rules) _ (sym c.in-Some.ensures) _ (sym c.in-Some-first.ensures)
    ∙ ap (λ (o : Option ℕ). get_or o 0) (sym c.other_path.ensures))
