-- How the call refuses. Assumes nothing.
use Prim.Native.Nat.{ℕ, suc, ◌+◌, ◌*◌}
use native.Mathlib.Omega.{arith}
use mathlib.Core.Path.{◌≡◌, refl, sym, ap, ◌∙◌}
use mathlib.Core.Logic.{⊎_elim, inl, inr}
use mathlib.Core.Bool.{Bool, false}
use mathlib.Core.List.{List, [], ◌∷◌, Memᴰ}
use mathlib.Core.Option.{none}
use lib.ListN.{length, take, drop}
use lib.Dec.{leb}
use borrow.Author.Tests.{leb-false}
use Rattle.logic.specs.Search.{keep}
use Rattle.logic.specs.Query.{Section, four_sections, boolean_section, five_sections, Layout, faulty, parts, with_part, layout, first_byte, layout_by, fault_in, layout_fault}
use Rattle.logic.specs.Calls.{Check, layout_check, byte_check, form_checks}
use Rattle.theory.proofs.Basics.Search.{none-some, and-false_cases, bool_cases}
use Rattle.theory.proofs.Basics.Compare.{eqb-false}
use Rattle.theory.proofs.Query.Bytes.{cond_elim}
use Rattle.theory.proofs.Query.AcceptedBytes.{form_elim}
use Rattle.theory.proofs.Calls.CheckingOrder.{first_own}
use Rattle.encoding.specs.WritingCall.{refused, Outcome, given}
use Rattle.encoding.proofs.WritingCall.{written_refused, refused_same, Case, by_check, by_room, by_writing, by_case, blank-answer, writes-answer}
use Rattle.encoding.proofs.WritingCall as calls
use Rattle.rewriting.specs.OldQuery.{old_sections}
use Rattle.rewriting.specs.Call.{rewrite_of, has_room, rewriting_old, rewrite_call}
use Rattle.rewriting.specs.Claims.{NoRoom, Refusals}
use Rattle.rewriting.proofs.Encoded.{room_has}

-- No refusal 26

abbrev NumberedBy : (ℕ → Type 0) → Layout → Type 0
NumberedBy P (faulty k place) = P k
NumberedBy P (parts ps) = Unit {0}

abbrev ExcessesBy : (ℕ → Type 0) → List Section → Type 0
ExcessesBy P [] = Unit {0}
ExcessesBy P (s ∷ ss) = P s.excess × ExcessesBy P ss

with_part_by : (P : ℕ → Type 0) (p : List ℕ) (l : Layout) → NumberedBy P l → NumberedBy P (with_part p l)
unfolding with_part
with_part_by P p (faulty k place) h = h
with_part_by P p (parts ps) h = h

-- the walk from the front meets 2, 4 or the refusal of a section's excess
layout_by_lem : (P : ℕ → Type 0) → P 2 → P 4 → (ss : List Section) (place : ℕ) (bytes : List ℕ) → ExcessesBy P ss → NumberedBy P (layout ss place bytes)
unfolding layout
layout_by_lem P two four [] place [] h = tt
layout_by_lem P two four [] place (b ∷ bytes) h = four
layout_by_lem P two four (s ∷ ss) place [] h = two
layout_by_lem P two four (s ∷ ss) place (c ∷ more) h =
    let rest = layout_by_lem P two four ss (suc place + c * s.width) (drop (c * s.width) more) h.1 in
    cond_elim (NumberedBy P) (leb c s.limit) (λ t. cond_elim (NumberedBy P) (leb (c * s.width) (length more)) (λ t'. with_part_by P (take (c * s.width) more) _ rest) (λ f. two)) (λ f. h.0)

never_26 : (bytes : List ℕ) → layout_fault old_sections 26 bytes ≡ none
unfolding layout_fault layout_by fault_in old_sections five_sections four_sections boolean_section keep
never_26 bytes = go (layout_by old_sections bytes)
    (layout_by_lem (λ k. k ≡ 26 → ⊥) (λ e. omega arith) (λ e. omega arith) (old_sections (first_byte bytes)) 0 bytes
    (λ e. omega arith, (λ e. omega arith, (λ e. omega arith, (λ e. omega arith, (λ e. omega arith, tt))))))
  where
    go : (l : Layout) → NumberedBy (λ k. k ≡ 26 → ⊥) l → fault_in 26 l ≡ none
    go (faulty k place) n = ap (λ (b : Bool). keep b place) (eqb-false k 26 n)
    go (parts ps) n = refl

-- the number of an old check that stands is not 26
retired : (bytes : List ℕ) (room : ℕ) (c : Check) → Memᴰ c (form_checks old_sections) → c.number ≡ 26 → c.place (given bytes room) ≡ none
unfolding layout_check byte_check
retired bytes room =
    form_elim old_sections (λ (c : Check). c.number ≡ 26 → c.place (given bytes room) ≡ none) (λ k m e. ap (λ (j : ℕ). layout_fault old_sections j bytes) e ∙ never_26 bytes)
    (λ k l u e. absurd (omega arith))

module _ (bytes : List ℕ) (room : ℕ) where
  not_26 : (place : ℕ) (o : Outcome) → Case rewriting_old bytes room o → o.answer ≡ refused 26 place → ⊥
  not_26 place o (by_check k at f e) h =
      none-some (sym (retired bytes room f.check (first_own (form_checks old_sections) (given bytes room) k at f)
      (f.numbered ∙ (refused_same (sym (blank-answer rewriting_old bytes room e) ∙ h)).0)) ∙ f.stands)
  not_26 place o (by_room a n e) h = omega (arith, (refused_same (sym (blank-answer rewriting_old bytes room e) ∙ h)).0)
  not_26 place o (by_writing a n e) h = written_refused (sym (writes-answer rewriting_old bytes room e) ∙ h)

  lacks : has_room room (rewrite_of bytes) ≡ false → NoRoom room bytes
  unfolding has_room
  lacks h =
      ⊎_elim (λ two. ⊎_elim (λ a. inl (leb-false _ 16 a)) (λ b. inr (inl (leb-false _ 60 b))) (and-false_cases _ _ two)) (λ c. inr (inr (leb-false _ room c))) (and-false_cases _ _ h)

  pub has_not : NoRoom room bytes → has_room room (rewrite_of bytes) ≡ false
  has_not n = ⊎_elim (λ h. let r = room_has room (rewrite_of bytes) h in
      absurd (⊎_elim (λ a. omega (arith, r.terms)) (⊎_elim (λ b. omega (arith, r.fields)) (λ c. omega (arith, r.output))) n)) (λ h. h)
      (bool_cases (has_room room (rewrite_of bytes)))

  pub refusals : Refusals bytes room
  refusals =
      record {
        writing_refusals = calls.refusals rewriting_old bytes room (λ h. (room_has room (rewrite_of bytes) h).output) NoRoom (lacks, has_not);
        never_retired = λ place. not_26 place (rewrite_call bytes room) (by_case rewriting_old bytes room);
      }
