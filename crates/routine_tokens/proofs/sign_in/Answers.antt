-- Assumes nothing.
use Rattle.std.proofs.Common.{ℕ, List, false, arith, ap, ◌∙◌}
use Rattle.routine_tokens.specs.Tokens.{row_of, row_length, sign_of}
use Rattle.routine_tokens.proofs.Rows.{token_sign, token_none, sign_inside, suffix}
use Rattle.routine_tokens.proofs.sign_in.Goals as goal

pub returns-in_default : goal.returns-in_default
returns-in_default c =
    let s = c.args in
    let table = s.table.now in
    let row = c.in_default.ensures ∙ ap (λ (bytes : List ℕ). row_of 16 false bytes table) (suffix s.text.now s.at) in
    token_none _ 16 _ (omega arith) ∙ ap (λ (r : ℕ). sign_of s.at r table) row

pub overflow_add-result-3 : goal.overflow_add-result-3
overflow_add-result-3 c =
    let r = c.in-Some.ensures in
    omega (arith, sign_inside c.args.text.now c.args.table.now _ _ _ c.requires.0 r.0 r.1 c.row_length.ensures)

pub returns : goal.returns
returns c =
    let s = c.args in
    let table = s.table.now in
    let r = c.in-Some.ensures in
    let row = r.1 ∙ ap (λ (bytes : List ℕ). row_of 16 false bytes table) (suffix s.text.now s.at) in
    token_sign _ _ _ _ r.0 (c.row_length.ensures ∙ ap row_length (suffix table _)) ∙ ap (λ (k : ℕ). sign_of s.at k table) row
