-- What the joining call and the hand-back answer on every input is small, and a refusal of either query is none of their own. Assumes nothing.
use Prim.Native.Nat.{ℕ, ◌≤◌, ◌<◌}
use native.Mathlib.Omega.{arith}
use mathlib.Core.Path.{◌≡◌, ap, ◌∙◌}
use mathlib.Core.Logic.{⊎_elim}
use mathlib.Core.Bool.{true}
use mathlib.Core.List.{List}
use lib.ListN.{length}
use Rattle.logic.specs.Query.{sections, layout_of}
use Rattle.logic.specs.Calls.{query_checks, accepts}
use Rattle.logic.specs.Demands.{FirstStands}
use Rattle.theory.proofs.Query.AcceptedBytes.{sections-excesses}
use Rattle.theory.proofs.Query.Places.{laid_short}
use Rattle.theory.proofs.Calls.CheckingOrder.{first_refusal}
use Rattle.encoding.specs.WritingCall.{given}
use Rattle.encoding.proofs.Decoded.{accepted_parts}
use Rattle.joining.specs.Call.{join_call}
use Rattle.joining.specs.Call as joining
use Rattle.joining.specs.HandBack.{hand_back_call}
use Rattle.joining.specs.Claims.{JoinRefusals, HandBackClaims}
use Rattle.joining.proofs.Calls.{join_length}
use Rattle.joining.proofs.Claims as joined
use Rattle.answer_codes.proofs.Returned.{OfQuery, JoinSmall, HandSmall}
use Rattle.lemitsaka.proofs.Bounds.{one_most, query-refusal}

-- one query: what is refused of it, and how long it is if nothing is
of_query : (bytes : List ℕ) (k place : ℕ) → FirstStands query_checks (given bytes 0) k place → OfQuery k place
of_query bytes k place f = query-refusal (given bytes 0) k place (first_refusal query_checks (given bytes 0) k place f)

accepted_short : (bytes : List ℕ) → accepts bytes ≡ true → length bytes ≤ 561
unfolding layout_of
accepted_short bytes h = let p = accepted_parts bytes h in laid_short sections 561 one_most sections-excesses bytes p.found p.laid

-- what is written has at most 561 bytes
pub join_small : (first second pairs : List ℕ) (room : ℕ) → JoinSmall (join_call first second pairs room).answer
join_small first second pairs room =
    record {
      lengths = λ n e. omega (arith, (join_length first second pairs room n e).0);
      of_first_lem = λ k place e. of_query first k place ((law.first_exactly k place).0 e);
      of_second_lem = λ k place e. of_query second k place ((law.second_exactly k place).0 e).1;
      of_neither = λ k place e. let n = law.refusal_numbered k place e in (n, ⊎_elim (unlisted k place e) (too_large k place e) n);
    }
  where
    law : JoinRefusals first second pairs room
    law = (joined.claims).refusals first second pairs room

    unlisted : (k place : ℕ) → (join_call first second pairs room).answer ≡ joining.refused k place → k ≡ 23 → place < 65536
    unlisted k place e q = omega (arith, ((law.pairs_exactly place).0 (e ∙ ap (λ (j : ℕ). joining.refused j place) q)).0)

    too_large : (k place : ℕ) → (join_call first second pairs room).answer ≡ joining.refused k place → k ≡ 24 → place < 65536
    too_large k place e q = omega (arith, ((law.room_exactly place).0 (e ∙ ap (λ (j : ℕ). joining.refused j place) q)).0)

-- a literal's three bytes stand in a query of at most 561
pub hand_small : (first second line : List ℕ) → HandSmall (hand_back_call first second line)
hand_small first second line =
    record {
      parts_first = λ at size e. let p = law.of_first_lem at size e in let w = p.within in (omega (arith, w.1, accepted_short first p.both.0), omega (arith, w.0));
      parts_second = λ at size e. let p = law.of_second_lem at size e in let w = p.within in (omega (arith, w.1, accepted_short second p.both.1), omega (arith, w.0));
      of_first_lem = λ k place e. of_query first k place ((law.first_exactly k place).0 e);
      of_second_lem = λ k place e. of_query second k place ((law.second_exactly k place).0 e).1;
      of_neither = λ k place e. let u = (law.unnamed_exactly k place).0 e in (u.0, omega (arith, u.1));
    }
  where
    law : HandBackClaims first second line
    law = (joined.claims).hand_back first second line
