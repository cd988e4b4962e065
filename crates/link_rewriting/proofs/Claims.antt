-- What is claimed of the rewriting with link 1, for every query. Assumes nothing.
use Prim.Native.Nat.{ℕ, ◌≤◌}
use native.Mathlib.Omega.{arith}
use mathlib.Core.Path.{◌≡◌, refl, sym, ap, ◌∙◌, subst}
use mathlib.Core.Logic.{◌↔◌, ⊎_elim}
use mathlib.Core.Bool.{true}
use mathlib.Core.List.Memᴰ
use mathlib.Core.List.{List, [], ◌∷◌}
use borrow.Author.Tests.{leb-true, leb-false, lt-leb}
use Rattle.logic.specs.Search.{keep}
use Rattle.logic.specs.Query.{Query, is_order, sections, decode}
use Rattle.logic.specs.Heap.{Heap, Meets, Satisfiable}
use Rattle.logic.specs.Calls.{Input, Check, CallForm, one_link_form, order_check, layout_check, byte_check, form_checks, query_checks}
use Rattle.logic.specs.Calls.{derivation_checks_of, verdict_checks_of, Answer, refused, accepts, accepts_by, padded, verdict_call, verdict_call_of}
use Rattle.logic.specs.Demands.{NotRefused, NoneStands, numbers}
use Rattle.logic.specs.ThreeLinks.{decode_links, three_link_form}
use Rattle.theory.proofs.Calls.CheckingOrder.{first_stands}
use Rattle.theory.proofs.Calls.CallLaws.{FormLaws, accepts_checks, verdict_clear}
use Rattle.theory.proofs.Calls.Refusals.{one_link_laws}
use Rattle.theory.proofs.Calls.Demands.{demand1_of, demand2_of}
use Rattle.theory.proofs.Calls.ThreeLinks.{three_link_laws}
use Rattle.encoding.specs.WritingCall.{accepts_in, room_check, writing_checks, WritingRefusals}
use Rattle.encoding.specs.WritingCall as call
use Rattle.encoding.proofs.Encoded.{Encodable}
use Rattle.encoding.proofs.Decoded.{accepted_encodable}
use Rattle.encoding.proofs.WritingCall.{Wrote, wrote, refusals}
use Rattle.link_rewriting.specs.Call.{linked_of, rewriting_links, links_rewrite_call}
use Rattle.link_rewriting.specs.Claims.{NoRoom, taken, Written, Claims}
use Rattle.link_rewriting.proofs.SameHeaps.{same_heaps}
use Rattle.link_rewriting.proofs.Encoded.{links_decoded, links_accepted, links-within}

pub checked_in_order : numbers (writing_checks rewriting_links) ≡ 2 ∷ 3 ∷ 26 ∷ 4 ∷ 5 ∷ 6 ∷ 7 ∷ 8 ∷ 27 ∷ []
unfolding writing_checks form_checks layout_check byte_check room_check
checked_in_order = refl

pub link_refusals : (bytes : List ℕ) (room : ℕ) → WritingRefusals rewriting_links NoRoom bytes room
link_refusals bytes room =
    refusals rewriting_links bytes room (leb-true _ room) NoRoom (leb-false _ room, lt-leb _ room)

-- the checks are those of the form of 01
pub accepts_same : (bytes : List ℕ) → accepts_in sections bytes ≡ accepts bytes
unfolding accepts_in accepts_by query_checks
accepts_same bytes = refl

-- a verdict call of any form on a query that it accepts, by an order list and with the room that its report needs
module _ (f : CallForm) (laws : FormLaws f) (i : Input) (order : is_order i.order ≡ true) (query : accepts_by f i.query ≡ true) (room : f.room ≤ i.room) where
  derivation_clear : NoneStands (derivation_checks_of f) i
  unfolding derivation_checks_of order_check keep
  derivation_clear c m =
      ⊎_elim (λ e. ap (λ (d : Check). d.place i) e ∙ rw order) (accepts_checks f laws i query c) (Memᴰ.cases_cons m)

  not_refused : NotRefused (verdict_call_of f i).answer
  not_refused k place e =
      let d = demand1_of f laws in
      first_stands (verdict_checks_of f) i k place (verdict_clear f laws i derivation_clear room) ((d.verdict_refusals.first_exactly i k place (d.verdict_numbered i k place e)).0 e)

  exactly : ((verdict_call_of f i).answer ≡ Answer.satisfiable) ↔ Satisfiable (f.decode i.query)
  exactly = (demand2_of f laws).satisfiable_exactly i not_refused

-- two answers that are no refusals are the same where one is "satisfiable" exactly if the other is
same_answer : (a b : Answer) → NotRefused a → NotRefused b → (a ≡ Answer.satisfiable) ↔ (b ≡ Answer.satisfiable) → a ≡ b
same_answer (refused k place) b x y e = absurd (x k place refl)
same_answer Answer.satisfiable b x y e = sym (e.0 refl)
same_answer Answer.refuted (refused k place) x y e = absurd (y k place refl)
same_answer Answer.refuted Answer.satisfiable x y e = e.1 refl
same_answer Answer.refuted Answer.refuted x y e = refl

module _ (bytes : List ℕ) (room n : ℕ) (h : (links_rewrite_call bytes room).answer ≡ call.written n) where
  did : Wrote rewriting_links bytes room n
  did = wrote rewriting_links bytes room n h

  accepted : accepts bytes ≡ true
  accepted = sym (accepts_same bytes) ∙ did.accepted

  encodable : Encodable (decode bytes)
  encodable = accepted_encodable bytes accepted

  links_take : accepts_by three_link_form (taken bytes room n) ≡ true
  links_take = ap (accepts_by three_link_form) did.taken ∙ links_accepted (decode bytes) encodable

  says : decode_links (taken bytes room n) ≡ linked_of bytes
  says = ap decode_links did.taken ∙ links_decoded (decode bytes) encodable

  heaps : (h : Heap) → Meets h (decode bytes) ↔ Meets h (decode_links (taken bytes room n))
  heaps h = subst (λ (q : Query). Meets h (decode bytes) ↔ Meets h q) (sym says) (same_heaps (decode bytes) encodable.one_linked.entries h)

  verdicts : (i j : Input) → i.query ≡ bytes → j.query ≡ taken bytes room n → is_order i.order ≡ true → is_order j.order ≡ true → 53 ≤ i.room →
      85 ≤ j.room → (verdict_call i).answer ≡ (verdict_call_of three_link_form j).answer
  verdicts i j e f x y r s =
      let a = ap accepts e ∙ accepted in
      let b = ap (accepts_by three_link_form) f ∙ links_take in
      let old = exactly one_link_form one_link_laws i x a r in
      let new = exactly three_link_form three_link_laws j y b s in
      same_answer _ _ (not_refused one_link_form one_link_laws i x a r) (not_refused three_link_form three_link_laws j y b s) (
        λ p. let (heap, m) = old.0 p in new.1 (heap, subst (λ (bs : List ℕ). Meets heap (decode_links bs)) (sym f) ((heaps heap).0 (subst (λ (bs : List ℕ). Meets heap (decode bs)) e m))),
        λ p. let (heap, m) = new.0 p in old.1 (heap, subst (λ (bs : List ℕ). Meets heap (decode bs)) (sym e) ((heaps heap).1 (subst (λ (bs : List ℕ). Meets heap (decode_links bs)) f m))),
      )

  pub links_written : Written bytes room n
  links_written =
      record {
        accepted = accepted;
        is_rewriting = did.taken;
        zeros_follow = did.leaves ∙ ap (padded room) (sym did.taken);
        within = omega (arith, did.counted, links-within (decode bytes) encodable);
        links_accepted = links_take;
        says = says;
        same_heaps = heaps;
        same_verdict = verdicts;
      }

pub claims : Claims
claims = record { checked_in_order = checked_in_order; refusals = link_refusals; written = links_written }
