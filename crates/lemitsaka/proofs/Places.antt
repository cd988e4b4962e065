-- The refusals that calls meet in the bytes of a query, whatever its form: their numbers, and places that a number holds. Assumes nothing.
use Prim.Native.Nat.{ℕ, ◌≤◌, ◌<◌}
use native.Mathlib.Omega.{arith}
use mathlib.Core.Path.{◌≡◌, refl, sym, ap, ◌∙◌}
use mathlib.Core.Logic.{⊎_elim}
use mathlib.Core.Bool.{Bool, true}
use mathlib.Core.List.{List, map, Memᴰ}
use mathlib.Core.Option.{some}
use lib.Dec.{eqb, ltb}
use borrow.Author.Tests.{ltb-true, eqb-true}
use Rattle.logic.specs.Search.{◌and◌, ◌or◌, all, keep, from}
use Rattle.logic.specs.Query.{Form}
use Rattle.logic.specs.Calls.{Input, Check, layout_check, byte_check, form_checks, refused, refusal_of}
use Rattle.logic.specs.Demands.{NoneStands, numbers}
use Rattle.theory.proofs.Basics.Search.{and_left, and_right, or_cases, all_true, keep_some, map-mem, map_intro}
use Rattle.theory.proofs.Query.Bytes.{layout_numbers, Excesses}
use Rattle.theory.proofs.Query.Places.{most, layout-place_of, byte_place_of}
use Rattle.theory.proofs.Calls.CheckingOrder.{refusal_first, first_numbered}
use Rattle.theory.proofs.Calls.CallLaws.{Placed, refusal_of-some}
use Rattle.theory.proofs.Calls.Refusals.{refused_one, both_placed}
use Rattle.answer_codes.proofs.Returned.{OfQuery}

-- the number of a refusal is that of a check
pub refusal_number : (cs : List Check) (i : Input) (k place : ℕ) → refusal_of cs i ≡ some (refused k place) → Memᴰ k (numbers cs)
refusal_number cs i k place h =
    let r = refusal_first cs i (refused k place) h in
    rw (refused_one r.3).0 (first_numbered cs i r.0 r.1 r.2)

-- checks whose place is 0
pub zero-placed : (longest : ℕ) (cs : List Check) (i : Input) → ((c : Check) → Memᴰ c cs → (b : Bool) × (c.place i ≡ keep b 0)) → Placed longest cs i
zero-placed longest cs i zero k place h =
    let (c, m, (p, s, q)) = refusal_of-some cs i _ h in
    let (b, e) = zero c m in
    let z = (keep_some b (sym e ∙ s)).1 in
    let w = (refused_one q).1 in
    (omega (arith, z, w), omega (arith, z, w))

-- numbers that a test finds so
pub numbers_within : (ks : List ℕ) → all (λ k. ltb 0 k and ltb k 28) ks ≡ true → (k : ℕ) → Memᴰ k ks → (1 ≤ k) × (k ≤ 27)
numbers_within ks h k m =
    let e = all_true (λ j. ltb 0 j and ltb j 28) k h m in
    let l = ltb-true 0 k (and_left _ _ e) in
    let u = ltb-true k 28 (and_right _ _ e) in
    (l, omega arith)

-- the numbers of the checks of a form: 2 to 8, and 26
unfoldable of_form : ℕ → Bool
of_form k = (ltb 0 k and ltb k 9) or eqb k 26

form-numbers : (form : Form) → all of_form (numbers (form_checks form)) ≡ true
unfolding of_form form_checks layout_check byte_check all ◌and◌ ◌or◌
form-numbers form = refl

form_number : (form : Form) (k : ℕ) → Memᴰ k (numbers (form_checks form)) → (1 ≤ k) × (k ≤ 26) × ((23 ≤ k) → k ≡ 26)
unfolding of_form
form_number form k m =
    ⊎_elim
    (λ e. let l = ltb-true 0 k (and_left _ _ e) in let u = ltb-true k 9 (and_right _ _ e) in (omega arith, omega arith, λ h. absurd (omega arith)))
    (λ e. let q = eqb-true k 26 e in (omega arith, omega arith, λ h. q))
    (or_cases _ _ (all_true of_form k (form-numbers form) m))

-- A form of query, and the bytes of its longest
module _ (form : Form) (longest : ℕ) (most_form : (n : ℕ) → most (form n) ≡ longest) (excesses : (n : ℕ) → Excesses (form n)) where
  pub form_placed : (i : Input) → Placed longest (form_checks form) i
  unfolding form_checks layout_numbers from layout_check byte_check
  form_placed i = both_placed longest (map (layout_check form) layout_numbers) (map (byte_check form) (from 4 5)) i front single
    where
      front : Placed longest (map (layout_check form) layout_numbers) i
      front k place h =
          let (c, m, (p, s, q)) = refusal_of-some (map (layout_check form) layout_numbers) i _ h in
          let (j, n, e) = map-mem (layout_check form) c layout_numbers m in
          layout-place_of form longest most_form excesses j i.query place (sym (ap (λ (x : Check). x.place i) e) ∙ s ∙ ap some (sym (refused_one q).1))

      single : NoneStands (map (layout_check form) layout_numbers) i → Placed longest (map (byte_check form) (from 4 5)) i
      single passed k place h =
          let (c, m, (p, s, q)) = refusal_of-some (map (byte_check form) (from 4 5)) i _ h in
          let (j, n, e) = map-mem (byte_check form) c (from 4 5) m in
          byte_place_of form longest most_form excesses j i.query place (λ l o. passed (layout_check form l) (map_intro (layout_check form) l o))
          (sym (ap (λ (x : Check). x.place i) e) ∙ s ∙ ap some (sym (refused_one q).1))

  pub form_refusal : longest < 65536 → (i : Input) (k place : ℕ) → refusal_of (form_checks form) i ≡ some (refused k place) → OfQuery k place
  form_refusal short i k place h =
      let n = form_number form k (refusal_number (form_checks form) i k place h) in
      let p = (form_placed i k place h).1 in
      record {
        small = (n.0, omega (arith, n.1), omega (arith, p));
        joining = ⊎_elim (λ e. let x = n.2 (omega arith) in omega arith) (λ e. let x = n.2 (omega arith) in omega arith);
        handing = λ e. let x = n.2 (omega arith) in omega arith;
      }
