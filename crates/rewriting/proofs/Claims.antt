-- What is claimed of the rewriting, for every old query. Assumes nothing.
use Prim.Native.Nat.{ℕ}
use native.Mathlib.Omega.{arith}
use mathlib.Core.Path.{◌≡◌, refl, sym, ap, ◌∙◌, subst}
use mathlib.Core.Logic.{◌↔◌}
use mathlib.Core.Bool.{true}
use mathlib.Core.List.{List, [], ◌∷◌}
use Rattle.logic.specs.Query.{decode}
use Rattle.logic.specs.Heap.{Satisfiable}
use Rattle.logic.specs.Calls.{Input, layout_check, byte_check, form_checks, accepts, padded}
use Rattle.logic.specs.Demands.{numbers}
use Rattle.theory.proofs.Calls.Demands.{demand2}
use Rattle.encoding.specs.WritingCall.{Answer, room_check, writing_checks}
use Rattle.encoding.proofs.Encoded.{Encodable, decoded}
use Rattle.encoding.proofs.Lengths.{encode_within}
use Rattle.encoding.proofs.Decoded.{encoded_accepts}
use Rattle.encoding.proofs.WritingCall.{Wrote, wrote}
use Rattle.rewriting.specs.OldQuery.{accepts_old, decode_old}
use Rattle.rewriting.specs.OldHeap.{SatisfiableOld}
use Rattle.rewriting.specs.Call.{rewrite_of, rewriting_old, rewrite_call}
use Rattle.rewriting.specs.Claims.{Rewriting, Written, taken, Claims}
use Rattle.rewriting.proofs.SameVerdict.{same_verdict}
use Rattle.rewriting.proofs.OldBytes.{base_accepted, base_linked, booleans_linked, base_limits, boolean_number}
use Rattle.rewriting.proofs.Encoded.{Room, room_has, rewrite_limits, rewrite_encodable}
use Rattle.rewriting.proofs.Copied.{copied, copied_accepts}
use Rattle.rewriting.proofs.Calls.{refusals}

pub checked_in_order : numbers (writing_checks rewriting_old) ≡ 2 ∷ 3 ∷ 26 ∷ 4 ∷ 5 ∷ 6 ∷ 7 ∷ 8 ∷ 27 ∷ []
unfolding writing_checks form_checks layout_check byte_check room_check
checked_in_order = refl

pub rewriting : (bytes : List ℕ) → accepts_old bytes ≡ true → Rewriting bytes
rewriting bytes h =
    record {
      same_verdict = same_verdict (decode_old bytes) (base_accepted bytes h);
      copied = copied bytes h;
      accepted = copied_accepts bytes h;
    }

-- one statement from another, along an equation
along : {P Q R : Type 0} → (P ↔ Q) → (Q ↔ R) → P ↔ R
along e f = (λ p. f.0 (e.0 p), λ r. e.1 (f.1 r))

module _ (bytes : List ℕ) (room n : ℕ) (h : (rewrite_call bytes room).answer ≡ Answer.written n) where
  did : Wrote rewriting_old bytes room n
  did = wrote rewriting_old bytes room n h

  room_there : Room room (rewrite_of bytes)
  room_there = room_has room (rewrite_of bytes) did.room_there

  old_verdict : SatisfiableOld (decode_old bytes) ↔ Satisfiable (rewrite_of bytes)
  old_verdict = same_verdict (decode_old bytes) (base_accepted bytes did.accepted)

  encodable : Encodable (rewrite_of bytes)
  encodable =
      let a = did.accepted in
      rewrite_encodable (decode_old bytes) (base_accepted bytes a) (base_linked bytes) (booleans_linked bytes) (base_limits bytes a) (boolean_number bytes a) room room_there

  says : decode (taken bytes room n) ≡ rewrite_of bytes
  says = ap decode did.taken ∙ decoded (rewrite_of bytes) encodable

  verdict : SatisfiableOld (decode_old bytes) ↔ Satisfiable (decode (taken bytes room n))
  verdict = subst (λ q. SatisfiableOld (decode_old bytes) ↔ Satisfiable q) (sym says) old_verdict

  -- of a call with these bytes
  of_call : (i : Input) → i.query ≡ taken bytes room n → Satisfiable (decode i.query) ↔ SatisfiableOld (decode_old bytes)
  of_call i e = let v = verdict in subst (λ (query : List ℕ). Satisfiable (decode query) ↔ SatisfiableOld (decode_old bytes)) (sym e) (v.1, v.0)

  pub written : Written bytes room n
  written =
      record {
        is_rewriting = did.taken;
        zeros_follow = did.leaves ∙ ap (padded room) (sym did.taken);
        within = let a = did.accepted in
            omega (
              arith,
              did.counted,
              encode_within (rewrite_of bytes)
                  (rewrite_limits (decode_old bytes) (base_accepted bytes a) (base_linked bytes) (booleans_linked bytes) (base_limits bytes a)
                  (boolean_number bytes a) room room_there),
            );
        accepted = ap accepts did.taken ∙ encoded_accepts (rewrite_of bytes) encodable;
        says = says;
        same_verdict = verdict;
        satisfiable_exactly = λ i e r. along (demand2.satisfiable_exactly i r) (of_call i e);
        refuted_exactly = λ i e r. let s = of_call i e in along (demand2.refuted_exactly i r) (λ no p. no (s.1 p), λ no p. no (s.0 p));
      }

pub claims : Claims
claims = record { checked_in_order = checked_in_order; refusals = refusals; rewriting = rewriting; written = written }
