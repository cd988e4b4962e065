-- The three demands are theorems.
use Prim.Native.Nat.{ℕ, ◌-◌, ◌≤◌}
use mathlib.Core.Path.{◌≡◌, refl, sym, ap, ◌∙◌, subst}
use mathlib.Core.Logic.{◌↔◌}
use mathlib.Core.Bool.{true}
use mathlib.Core.List.{List, Memᴰ}
use lib.ListN.{length, replicate}
use Rattle.logic.specs.Query.{Query}
use Rattle.logic.specs.Heap.{Satisfiable}
use Rattle.logic.specs.Facts.{Facts}
use Rattle.logic.specs.Walk.{Ending, Verdict, our_walk, our_verdict}
use Rattle.logic.specs.Shown.{report, well_formed}
use Rattle.logic.specs.Calls.{Input, order_check, layout_check, byte_check, form_checks, room_under, query_checks, CallForm, one_link_form, verdict_checks_of}
use Rattle.logic.specs.Calls.{derivation_checks_of, Outcome, Answer, refused, padded, blank, verdict_of, verdict_call_of, derivation_call_of}
use Rattle.logic.specs.Demands.{NotRefused, numbers, Alike, walk_of, Demand1, Demand2, Demand3, ChecksInOrder, Shows, Right, answer_of}
use Rattle.theory.proofs.Query.Tied.{Accepted}
use Rattle.theory.proofs.Walks.Limit.{our_refutes}
use Rattle.theory.proofs.Walks.Follows.{hand_follows}
use Rattle.theory.proofs.Completeness.ShownHeap.{shown, formed}
use Rattle.theory.proofs.Calls.Verdicts.{Model, our_model, completed, our_right, hand_right, right_unique}
use Rattle.theory.proofs.Calls.CallLaws.{FormLaws, Passed, derivation_passed, derivation_known, verdict_clear, verdict_passed, alike_clear}
use Rattle.theory.proofs.Calls.Refusals.{refused_one, blank-answer, one_link_laws}
use Rattle.theory.proofs.Calls.VerdictCall.{verdict_at, refused_satisfiable, refused_refuted, refuted-satisfiable, VerdictCase}
use Rattle.theory.proofs.Calls.VerdictCall.{by_refusal, by_lines, by_model, verdict_refusals, verdict_of_lem, verdict_case}
use Rattle.theory.proofs.Calls.DerivationCall.{derivation_refusals, never_satisfiable, heap_exactly, excess_exactly, lines_exactly, eleven_modelled, model_answered, unrefused_refuted, derived}

-- an answer is a verdict's exactly as the verdicts are
answer_verdict : (v w : Verdict) → (answer_of v ≡ answer_of w) ↔ (v ≡ w)
answer_verdict Verdict.satisfiable Verdict.satisfiable = (λ e. refl, λ e. refl)
answer_verdict Verdict.satisfiable Verdict.refuted = (λ e. absurd (refuted-satisfiable (sym e)), λ e. ap answer_of e)
answer_verdict Verdict.refuted Verdict.satisfiable = (λ e. absurd (refuted-satisfiable e), λ e. ap answer_of e)
answer_verdict Verdict.refuted Verdict.refuted = (λ e. refl, λ e. refl)

-- where the call says "satisfiable", its walk has found a model, and the report is that model's
record Found (f : CallForm) (i : Input) (o : Outcome) : Type 0 where
  facts : Facts
  query_accepted : Accepted (f.decode i.query)
  is_model : Model (f.decode i.query) facts
  lent_is : o.lent ≡ padded i.room (report (f.decode i.query) facts)

module _ (f : CallForm) (laws : FormLaws f) where
  -- the query of a call whose checks all pass is accepted
  call_accepted : (i : Input) → Passed f i → Accepted (f.decode i.query)
  call_accepted i p = laws.accepted_query i.query p.query

  found : (i : Input) (o : Outcome) → o.answer ≡ Answer.satisfiable → VerdictCase f laws i o → Found f i o
  found i o h (by_refusal k p u e) = absurd (refused_satisfiable (sym h ∙ blank-answer o i.room _ e))
  found i o h (by_lines ls w e r) = absurd (refuted-satisfiable (sym (blank-answer o i.room _ e) ∙ h))
  found i o h (by_model s w e r) =
      let p = (verdict_passed f laws i r).0 in
      let ok = call_accepted i p in
      record {
        facts = s;
        query_accepted = ok;
        is_model = our_model (f.decode i.query) ok i.order p.order s w;
        lent_is = ap (λ (x : Outcome). x.lent) e;
      }

  found-shown : (i : Input) (o : Outcome) → Found f i o → Shows o.lent (f.decode i.query) × (well_formed f.links o.lent ≡ true)
  unfolding padded
  found-shown i o g =
      let q : Query = f.decode i.query in
      let s : Facts = g.facts in
      let ok = g.query_accepted in
      let tied = g.is_model.invariant.tied in
      let comp = completed q ok s g.is_model in
      rw g.lent_is (
        shown q s ok tied comp g.is_model.no_clash (replicate (i.room - length (report q s)) 0),
        subst (λ (k : ℕ). well_formed k (padded i.room (report q s)) ≡ true) (laws.same_links i.query) (formed q s ok tied comp (i.room - length (report q s))),
      )

  -- where the call is not refused, it answers our walk's verdict
  answered : (i : Input) (o : Outcome) → NotRefused o.answer → VerdictCase f laws i o → (o.answer ≡ answer_of (our_verdict (walk_of f i))) × Passed f i
  unfolding blank our_verdict
  answered i o h (by_refusal k p u e) = absurd (h k p (ap (λ (x : Outcome). x.answer) e))
  answered i o h (by_lines ls w e r) = (ap (λ (x : Outcome). x.answer) e ∙ sym (ap (λ (x : Ending). answer_of (our_verdict x)) w), (verdict_passed f laws i r).0)
  answered i o h (by_model s w e r) = (ap (λ (x : Outcome). x.answer) e ∙ sym (ap (λ (x : Ending). answer_of (our_verdict x)) w), (verdict_passed f laws i r).0)

  -- and its input has passed checks 1 to 8
  pub call_passed : (i : Input) → NotRefused (verdict_call_of f i).answer → Passed f i
  call_passed i h = (answered i (verdict_call_of f i) h (verdict_case f laws i)).1

  answer_right : (i : Input) → NotRefused (verdict_call_of f i).answer → (v : Verdict) × ((verdict_call_of f i).answer ≡ answer_of v) × Right (f.decode i.query) v
  answer_right i h =
      let (e, p) = answered i (verdict_call_of f i) h (verdict_case f laws i) in
      (our_verdict (walk_of f i), e, our_right (f.decode i.query) (call_accepted i p) i.order p.order)

  answer_exactly : (i : Input) (w : Verdict) (P : Type 0) → NotRefused (verdict_call_of f i).answer →
      ((v : Verdict) → Right (f.decode i.query) v → (v ≡ w) ↔ P) → ((verdict_call_of f i).answer ≡ answer_of w) ↔ P
  answer_exactly i w P h exactly =
      let a = answer_right i h in
      let e = exactly a.0 a.2 in
      (λ k. e.0 ((answer_verdict a.0 w).0 (sym a.1 ∙ k)), λ p. a.1 ∙ ap answer_of (e.1 p))

  -- Demand 1

  -- the verdict call has no refusal but those of its checks
  verdict_numbered : (i : Input) (o : Outcome) (k place : ℕ) → o.answer ≡ refused k place → VerdictCase f laws i o → Memᴰ k (numbers (verdict_checks_of f))
  verdict_numbered i o k place h (by_refusal j p u e) = subst (λ (x : ℕ). Memᴰ x (numbers (verdict_checks_of f))) (refused_one (sym (blank-answer o i.room _ e) ∙ h)).0 u
  verdict_numbered i o k place h (by_lines ls w e r) = absurd (refused_refuted (sym (blank-answer o i.room _ e) ∙ h))
  verdict_numbered i o k place h (by_model s w e r) = absurd (refused_satisfiable (sym (ap (λ (x : Outcome). x.answer) e) ∙ h))

  -- one walk is behind two calls of one order list and one query
  alike_walk : (i j : Input) → Alike i j → walk_of f i ≡ walk_of f j
  alike_walk i j e = ap (λ (order : List ℕ). our_walk order (f.decode i.query)) e.0 ∙ ap (λ (query : List ℕ). our_walk j.order (f.decode query)) e.1

  alike_back : (i j : Input) → Alike i j → Alike j i
  alike_back i j e = (sym e.0, sym e.1)

  -- where both calls give a verdict, it is "refuted"
  one_verdict : (i j : Input) → Alike i j → NotRefused (verdict_call_of f i).answer → NotRefused (derivation_call_of f j).answer → (verdict_call_of f i).answer ≡ (derivation_call_of f j).answer
  unfolding our_verdict
  one_verdict i j e h g =
      let d = unrefused_refuted f laws j g in
      let (n, (ls, w, z)) = (lines_exactly f laws j).0 d in
      (answered i (verdict_call_of f i) h (verdict_case f laws i)).0 ∙ ap (λ (x : Ending). answer_of (our_verdict x)) (alike_walk i j e ∙ w) ∙ sym d

  one_heap : (i j : Input) → Alike i j → f.room ≤ i.room → ((verdict_call_of f i).answer ≡ Answer.satisfiable) ↔ ((derivation_call_of f j).answer ≡ refused 11 0)
  unfolding verdict_of
  one_heap i j e r = (λ h. there (verdict_call_of f i) h (verdict_case f laws i), back)
    where
      there : (o : Outcome) → o.answer ≡ Answer.satisfiable → VerdictCase f laws i o → (derivation_call_of f j).answer ≡ refused 11 0
      there o h (by_refusal k p u q) = absurd (refused_satisfiable (sym h ∙ blank-answer o i.room _ q))
      there o h (by_lines ls w q n) = absurd (refuted-satisfiable (sym (blank-answer o i.room _ q) ∙ h))
      there o h (by_model s w q n) = model_answered f laws j s (alike_clear f laws i j e (λ c m. n c (derivation_known f laws c m))) (sym (alike_walk i j e) ∙ w)

      back : (derivation_call_of f j).answer ≡ refused 11 0 → (verdict_call_of f i).answer ≡ Answer.satisfiable
      back h =
          let (n, (s, w)) = eleven_modelled f laws j 0 h in
          ap (λ (o : Outcome). o.answer) (verdict_of_lem f laws i (verdict_clear f laws i (alike_clear f laws j i (alike_back i j e) n) r) ∙ ap (verdict_at f laws i) (alike_walk i j e ∙ w))

  pub demand1_of : Demand1 f
  demand1_of =
      record {
        verdict_refusals = verdict_refusals f laws;
        derivation_refusals = derivation_refusals f laws;
        verdict_numbered = λ i k place h. verdict_numbered i (verdict_call_of f i) k place h (verdict_case f laws i);
        report_formed = λ i h. (found-shown i (verdict_call_of f i) (found i (verdict_call_of f i) h (verdict_case f laws i))).1;
        heap_exactly = heap_exactly f laws;
        excess_exactly = excess_exactly f laws;
        lines_exactly = lines_exactly f laws;
        never_satisfiable = never_satisfiable f laws;
        one_verdict = one_verdict;
        one_heap = one_heap;
      }

  -- Demand 2

  pub demand2_of : Demand2 f
  demand2_of =
      record {
        satisfiable_exactly = λ i h. answer_exactly i Verdict.satisfiable (Satisfiable (f.decode i.query)) h (λ v r. r.satisfiable_exactly);
        heap_shown = λ i h. (found-shown i (verdict_call_of f i) (found i (verdict_call_of f i) h (verdict_case f laws i))).0;
        refuted_exactly = λ i h. answer_exactly i Verdict.refuted (Satisfiable (f.decode i.query) → ⊥) h (λ v r. r.refuted_exactly);
        derivation_follows = λ i h. our_refutes (f.decode i.query) (call_accepted i (derivation_passed f laws i ((lines_exactly f laws i).0 h).0)) i.order _ (derived f laws i h).walked;
        derivation_walked = λ i h. (derived f laws i h).walked;
        derivation_formed = λ i h. (derived f laws i h).formed;
        derivation_counted = λ i h. (derived f laws i h).fits;
      }

  -- Demand 3

  pub demand3_of : Demand3 f
  demand3_of =
      record {
        one_verdict = λ query order picks w a o h.
            right_unique (f.decode query) _ w (our_right (f.decode query) (laws.accepted_query query a) order o) (hand_right (f.decode query) (laws.accepted_query query a) picks w h);
        ours_right = λ query order a o. our_right (f.decode query) (laws.accepted_query query a) order o;
        hand_right = λ query picks w a h. hand_right (f.decode query) (laws.accepted_query query a) picks w h;
        hand_follows = λ query order a o. hand_follows (f.decode query) (laws.accepted_query query a) order o;
        call_answers = λ i h. (answered i (verdict_call_of f i) h (verdict_case f laws i)).0;
      }

-- the two calls of 01
pub demand1 : Demand1 one_link_form
demand1 = demand1_of one_link_form one_link_laws

pub demand2 : Demand2 one_link_form
demand2 = demand2_of one_link_form one_link_laws

pub demand3 : Demand3 one_link_form
demand3 = demand3_of one_link_form one_link_laws

pub checks_in_order : ChecksInOrder
unfolding verdict_checks_of derivation_checks_of query_checks form_checks order_check layout_check byte_check room_under
checks_in_order = record { verdict_checks = refl; derivation_checks = refl }
