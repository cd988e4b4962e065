use Rattle.std.proofs.Common.{ℕ, ◌≡◌, List, drop, ap, ◌∙◌}
use Rattle.std.proofs.lemmas.Result.{err_from_is_err_and}
use Rattle.logic.specs.Query.{first_byte}
use Rattle.refusals.specs.Numbers.{number_of}
use Rattle.entries.specs.Entries.{width_of}
use Rattle.query.specs.Forms.{entry_kind, reach_kind, form_by}
use Rattle.query.specs.Sections.{Stands}
use Rattle.query.proofs.Reading.{Reached, at_front, beyond, stopped, trailing}
use Rattle.query.proofs.lay_out.Goals as goal

-- Behind each section that was read: where the walk has come to.
module _ (bytes : List ℕ) (links most excess : ℕ) where
  abbrev Behind : ℕ → ℕ → Type 0
  Behind k next = Reached (form_by links most excess) bytes (drop k (form_by links most excess (first_byte bytes))) next

  behind₁ : {count next : ℕ} → Stands bytes 16 (width_of (entry_kind links)) 0 count next → Behind 1 next
  unfolding form_by
  behind₁ s = beyond (at_front _ _) s

  behind₂ : {at count next : ℕ} → Behind 1 at → Stands bytes 60 3 at count next → Behind 2 next
  unfolding form_by
  behind₂ r s = beyond r s

  behind₃ : {at count next : ℕ} → Behind 2 at → Stands bytes 60 (width_of (reach_kind links)) at count next → Behind 3 next
  unfolding form_by
  behind₃ r s = beyond r s

  behind₄ : {at count next : ℕ} → Behind 3 at → Stands bytes 60 3 at count next → Behind 4 next
  unfolding form_by
  behind₄ r s = beyond r s

  behind₅ : {at count next : ℕ} → Behind 4 at → Stands bytes most 2 at count next → Behind 5 next
  unfolding form_by
  behind₅ r s = beyond r s

pub returns-in_err-terms : goal.returns-in_err-terms
unfolding form_by
returns-in_err-terms c =
    let b = c.args.query.now in let l = c.args.links in let m = c.args.most in let x = number_of c.args.excess in
    let entry : c.width-entry_width.result ≡ width_of (entry_kind l) = c.width-entry_width.ensures ∙ ap width_of c.entry_kind.ensures in
    let p = err_from_is_err_and c.from_residual.result c.from_residual.ensures.1 in
    rw (p.1, p.2) (stopped (at_front _ _) _ (rw entry at c.in_err-terms.ensures))

pub returns-in_err-equal : goal.returns-in_err-equal
unfolding form_by
returns-in_err-equal c =
    let b = c.args.query.now in let l = c.args.links in let m = c.args.most in let x = number_of c.args.excess in
    let entry : c.width-entry_width.result ≡ width_of (entry_kind l) = c.width-entry_width.ensures ∙ ap width_of c.entry_kind.ensures in
    let r1 = behind₁ b l m x (rw entry at c.in_ok-terms.ensures) in
    let p = err_from_is_err_and c.from_residual-in_err-equal.result c.from_residual-in_err-equal.ensures.1 in
    rw (p.1, p.2) (stopped r1 _ c.in_err-equal.ensures)

pub returns-in_err-reach : goal.returns-in_err-reach
unfolding form_by
returns-in_err-reach c =
    let b = c.args.query.now in let l = c.args.links in let m = c.args.most in let x = number_of c.args.excess in
    let entry : c.width-entry_width.result ≡ width_of (entry_kind l) = c.width-entry_width.ensures ∙ ap width_of c.entry_kind.ensures in
    let reach : c.width-reach_width.result ≡ width_of (reach_kind l) = c.width-reach_width.ensures ∙ ap width_of c.reach_kind.ensures in
    let r1 = behind₁ b l m x (rw entry at c.in_ok-terms.ensures) in
    let r2 = behind₂ b l m x r1 c.in_ok-equal.ensures in
    let p = err_from_is_err_and c.from_residual-in_err-reach.result c.from_residual-in_err-reach.ensures.1 in
    rw (p.1, p.2) (stopped r2 _ (rw reach at c.in_err-reach.ensures))

pub returns-in_err-field : goal.returns-in_err-field
unfolding form_by
returns-in_err-field c =
    let b = c.args.query.now in let l = c.args.links in let m = c.args.most in let x = number_of c.args.excess in
    let entry : c.width-entry_width.result ≡ width_of (entry_kind l) = c.width-entry_width.ensures ∙ ap width_of c.entry_kind.ensures in
    let reach : c.width-reach_width.result ≡ width_of (reach_kind l) = c.width-reach_width.ensures ∙ ap width_of c.reach_kind.ensures in
    let r1 = behind₁ b l m x (rw entry at c.in_ok-terms.ensures) in
    let r2 = behind₂ b l m x r1 c.in_ok-equal.ensures in
    let r3 = behind₃ b l m x r2 (rw reach at c.in_ok-reach.ensures) in
    let p = err_from_is_err_and c.from_residual-in_err-field.result c.from_residual-in_err-field.ensures.1 in
    rw (p.1, p.2) (stopped r3 _ c.in_err-field.ensures)

pub returns-in_err-boolean : goal.returns-in_err-boolean
unfolding form_by
returns-in_err-boolean c =
    let b = c.args.query.now in let l = c.args.links in let m = c.args.most in let x = number_of c.args.excess in
    let entry : c.width-entry_width.result ≡ width_of (entry_kind l) = c.width-entry_width.ensures ∙ ap width_of c.entry_kind.ensures in
    let reach : c.width-reach_width.result ≡ width_of (reach_kind l) = c.width-reach_width.ensures ∙ ap width_of c.reach_kind.ensures in
    let r1 = behind₁ b l m x (rw entry at c.in_ok-terms.ensures) in
    let r2 = behind₂ b l m x r1 c.in_ok-equal.ensures in
    let r3 = behind₃ b l m x r2 (rw reach at c.in_ok-reach.ensures) in
    let r4 = behind₄ b l m x r3 c.in_ok-field.ensures in
    let p = err_from_is_err_and c.from_residual-in_err-boolean.result c.from_residual-in_err-boolean.ensures.1 in
    rw (p.1, p.2) (stopped r4 _ c.in_err-boolean.ensures)

pub returns-then-boolean-query : goal.returns-then-boolean-query
unfolding form_by
returns-then-boolean-query c =
    let b = c.args.query.now in let l = c.args.links in let m = c.args.most in let x = number_of c.args.excess in
    let entry : c.width-entry_width.result ≡ width_of (entry_kind l) = c.width-entry_width.ensures ∙ ap width_of c.entry_kind.ensures in
    let reach : c.width-reach_width.result ≡ width_of (reach_kind l) = c.width-reach_width.ensures ∙ ap width_of c.reach_kind.ensures in
    let r1 = behind₁ b l m x (rw entry at c.in_ok-terms.ensures) in
    let r2 = behind₂ b l m x r1 c.in_ok-equal.ensures in
    let r3 = behind₃ b l m x r2 (rw reach at c.in_ok-reach.ensures) in
    let r4 = behind₄ b l m x r3 c.in_ok-field.ensures in
    let r5 = behind₅ b l m x r4 c.in_ok-boolean.ensures in
    rw c.at.ensures (trailing r5 c.if-boolean-query.true)
