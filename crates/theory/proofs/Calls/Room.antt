-- So many bytes as check 9 asks for are enough for every report: they are never refused, and every byte past them is zero.
use Prim.Native.Nat.{ℕ, zero, ◌+◌, ◌-◌, ◌≤◌, ◌<◌}
use native.Mathlib.Omega.{arith}
use mathlib.Core.Path.{◌≡◌, refl, sym, ap, ◌∙◌}
use mathlib.Core.Logic.{⊎_elim}
use mathlib.Core.List.Memᴰ
use mathlib.Core.List.{List, ◌++◌, Memᴰ}
use mathlib.Core.Option.{some}
use lib.ListN.{length, get_or, replicate}
use lib.Seq.{get_or-append-add}
use lib.Dec.{ltb}
use Rattle.logic.specs.Query.{Query}
use Rattle.logic.specs.Shown.{report}
use Rattle.logic.specs.Calls.{Input, Check, order_check, room_under, CallForm, verdict_checks_of, Outcome, refused, padded, verdict_call_of}
use Rattle.logic.specs.Demands.{numbers}
use Rattle.theory.proofs.Basics.Search.{keep_some, map_intro}
use Rattle.theory.proofs.Basics.Compare.{ltb-true}
use Rattle.theory.proofs.Calls.CheckingOrder.{first_own}
use Rattle.theory.proofs.Calls.CallLaws.{FormLaws, verdict_passed}
use Rattle.theory.proofs.Calls.Refusals.{blank-lent}
use Rattle.theory.proofs.Calls.VerdictCall.{fits, verdict_refusals, VerdictCase, by_refusal, by_lines, by_model, verdict_case}
use Rattle.theory.proofs.Basics.Count.{get_d_zeros}

module _ (f : CallForm) (laws : FormLaws f) where
  -- check 9 is that of the report's room
  nine : (i : Input) (c : Check) → Memᴰ c (verdict_checks_of f) → c.number ≡ 9 → (place : ℕ) → c.place i ≡ some place → i.room < f.room
  unfolding verdict_checks_of order_check room_under
  nine i c m e place h =
      ⊎_elim (λ o. absurd (omega (arith, e, ap (λ (x : Check). x.number) o)))
      (λ n. ⊎_elim
      (λ n'. absurd ((laws.early c.number (map_intro (λ (x : Check). x.number) c n')).1 e))
      (λ n'. ⊎_elim (λ o. ltb-true i.room f.room (keep_some (ltb i.room f.room) (sym (ap (λ (x : Check). x.place i) o) ∙ h)).0)
      (λ n''. absurd (Memᴰ.not-nil n'')) (Memᴰ.cases_cons n'))
      (Memᴰ.append_cases f.checks n))
      (Memᴰ.cases_cons m)

  nine_checked : Memᴰ 9 (numbers (verdict_checks_of f))
  unfolding verdict_checks_of room_under
  nine_checked = map_intro (λ (c : Check). c.number) (room_under f.room) {xs = verdict_checks_of f} (Memᴰ.tail (Memᴰ.append_right f.checks (Memᴰ.head refl)))

  pub room_enough : (i : Input) → f.room ≤ i.room → (place : ℕ) → (verdict_call_of f i).answer ≡ refused 9 place → ⊥
  room_enough i l place h =
      let g = ((verdict_refusals f laws).first_exactly i 9 place nine_checked).0 h in
      omega (arith, l, nine i g.check (first_own (verdict_checks_of f) i 9 place g) g.numbered place g.stands)

padded-zero : (room : ℕ) (bytes : List ℕ) (n : ℕ) → length bytes ≤ n → get_or (padded room bytes) n 0 ≡ 0
unfolding padded
padded-zero room bytes n l =
    let zeros : List ℕ = replicate (room - length bytes) 0 in
    let e : n ≡ length bytes + (n - length bytes) = omega (arith, l) in
    ap (λ (k : ℕ). get_or (bytes ++ zeros) k 0) e ∙ get_or-append-add bytes zeros (n - length bytes) 0 ∙ get_d_zeros (room - length bytes) (n - length bytes)

module _ (f : CallForm) (laws : FormLaws f) where
  case_short : (i : Input) (o : Outcome) → VerdictCase f laws i o → (n : ℕ) → f.room ≤ n → get_or o.lent n 0 ≡ 0
  case_short i o (by_refusal k p u e) n l = ap (λ (b : List ℕ). get_or b n 0) (blank-lent o i.room _ e) ∙ get_d_zeros i.room n
  case_short i o (by_lines ls w e h) n l = ap (λ (b : List ℕ). get_or b n 0) (blank-lent o i.room _ e) ∙ get_d_zeros i.room n
  case_short i o (by_model s w e h) n l =
      let q : Query = f.decode i.query in
      let short = fits f laws i.query s (verdict_passed f laws i h).0.query n l in
      ap (λ (x : Outcome). get_or x.lent n 0) e ∙ padded-zero i.room (report q s) n short

  pub report-short : (i : Input) (n : ℕ) → f.room ≤ n → get_or (verdict_call_of f i).lent n 0 ≡ 0
  report-short i = case_short i (verdict_call_of f i) (verdict_case f laws i)
