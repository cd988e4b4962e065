-- What is claimed, for every two queries, pair list, buffer and line. Assumes nothing.
use Prim.Native.Nat.{ℕ}
use mathlib.Core.Path.{◌≡◌, refl, sym, ap, ◌∙◌, subst}
use mathlib.Core.Logic.{◌↔◌}
use mathlib.Core.List.{List, [], ◌∷◌}
use Rattle.logic.specs.Query.{Query, decode}
use Rattle.logic.specs.Heap.{Satisfiable}
use Rattle.logic.specs.Calls.{Input, layout_check, byte_check, form_checks, query_checks, accepts}
use Rattle.logic.specs.Demands.{numbers}
use Rattle.theory.proofs.Calls.Demands.{demand2}
use Rattle.encoding.proofs.Encoded.{Encodable, decoded}
use Rattle.encoding.proofs.Decoded.{accepted_encodable, encoded_accepts}
use Rattle.joining.specs.Pairs.{Pair}
use Rattle.joining.specs.Heaps.{OneHeap}
use Rattle.joining.specs.Call.{written}
use Rattle.joining.specs.Claims.{ListsPairs, as_one, answered, taken, Written, Claims}
use Rattle.joining.proofs.Accepted.{all_paired, one_encodable}
use Rattle.joining.proofs.OneHeap.{joined_only, joined_if}
use Rattle.joining.proofs.Calls.{fits_limits, Wrote, wrote, refusals, join_length}
use Rattle.joining.proofs.HandBack.{hand_back, clash_handed}

query_checks_lem : numbers query_checks ≡ 2 ∷ 3 ∷ 26 ∷ 4 ∷ 5 ∷ 6 ∷ 7 ∷ 8 ∷ []
unfolding query_checks form_checks layout_check byte_check
query_checks_lem = refl

along : {P Q R : Type 0} → (P ↔ Q) → (Q ↔ R) → P ↔ R
along e f = (λ p. f.0 (e.0 p), λ r. e.1 (f.1 r))

module _ (first second pairs : List ℕ) (room n : ℕ) (ps : List Pair) (h : answered first second pairs room ≡ written n) (listed : ListsPairs first second pairs ps) where
  did : Wrote first second pairs room n ps
  did = wrote first second pairs room n ps h listed

  encodable : Encodable (as_one first second ps)
  encodable = one_encodable first second pairs ps did.both listed (fits_limits room first second ps did.fits)

  says : decode (taken first second pairs room n ps) ≡ as_one first second ps
  says = ap decode did.taken_are ∙ decoded (as_one first second ps) encodable

  verdict : Satisfiable (as_one first second ps) ↔ OneHeap (decode first) (decode second) ps
  verdict =
      let a = accepted_encodable first did.both.0 in
      let b = accepted_encodable second did.both.1 in
      let paired = all_paired first second pairs ps did.both listed in
      let small = (fits_limits room first second ps did.fits).terms in
      (joined_only (decode first) (decode second) ps a b paired small, joined_if (decode first) (decode second) ps a b paired small)

  one_heap : Satisfiable (decode (taken first second pairs room n ps)) ↔ OneHeap (decode first) (decode second) ps
  one_heap = subst (λ (q : Query). Satisfiable q ↔ OneHeap (decode first) (decode second) ps) (sym says) verdict

  -- of a call with these bytes
  of_call : (i : Input) → i.query ≡ taken first second pairs room n ps → Satisfiable (decode i.query) ↔ OneHeap (decode first) (decode second) ps
  of_call i e = subst (λ (query : List ℕ). Satisfiable (decode query) ↔ OneHeap (decode first) (decode second) ps) (sym e) one_heap

  joins : Written first second pairs room n ps
  joins =
      record {
        is_joined = did.taken_are;
        zeros_follow = did.zeros_follow;
        within = (join_length first second pairs room n h).0;
        accepted = ap accepts did.taken_are ∙ encoded_accepts (as_one first second ps) encodable;
        says = says;
        one_heap = one_heap;
        satisfiable_exactly = λ i e r. along (demand2.satisfiable_exactly i r) (of_call i e);
        refuted_exactly = λ i e r. let s = of_call i e in along (demand2.refuted_exactly i r) (λ no p. no (s.1 p), λ no p. no (s.0 p));
      }

pub claims : Claims
claims = record { query_checks_lem = query_checks_lem; refusals = refusals; joins = joins; hand_back = hand_back; clash_handed = clash_handed }
