-- What the calls do, by the outcome of their checks.
use Prim.Native.Nat.{ℕ, ◌+◌, ◌*◌, ◌≤◌, ◌<◌}
use native.Mathlib.Omega.{arith}
use mathlib.Core.Path.{◌≡◌, refl, sym, ap, ◌∙◌, subst}
use mathlib.Core.Bool.{true, false}
use mathlib.Core.List.{List}
use mathlib.Core.Option.{some}
use lib.ListN.{length, replicate}
use Rattle.logic.specs.Query.{Query, is_order, term_count}
use Rattle.logic.specs.Walk.{our_walk, saturation}
use Rattle.logic.specs.Calls.{CallForm, Input, refused, refusal_of, verdict_of, derivation_of, derivation_call_of, derivation_checks_of, verdict_call_of, verdict_checks_of}
use Rattle.logic.specs.Calls as calls
use Rattle.theory.proofs.Calls.CallLaws.{FormLaws}
use Rattle.theory.proofs.Query.Tied.{Accepted, Tied}
use Rattle.theory.proofs.Paths.Ranged.{live_range}
use Rattle.facts.specs.Path.{rep_of, path_of}
use Rattle.facts.specs.declared.Facts as code
use Rattle.query.specs.declared.Layout.{Layout}
use Rattle.link_query.specs.Said.{said, Within}
use Rattle.link_query.specs.Answers.{Taken}
use Rattle.link_query.proofs.Said.{terms-said}
use Rattle.form_checks.proofs.Laws.{said-links}
use Rattle.report.specs.Bytes.{Reportable}
use Rattle.prover.specs.Promise.{input_of, Does}
use Rattle.prover.specs.declared.Answer.{Answer}
use Rattle.prover.specs.declared.Answer.TheVariants as answer
use Rattle.prover.proofs.Checks.{order_refused, query_refused, room_refused, verdict_clear, derivation_refused, derivation_clear, call_refused, call_walked}
use Rattle.prover.proofs.Outcomes.{does_blank, saturated_tied}

-- zeros are zeros again
pub zeros_as : (bytes : List ℕ) (n m : ℕ) → bytes ≡ replicate n 0 → n ≡ m → bytes ≡ replicate m 0
zeros_as bytes n m e f = e ∙ ap (λ (k : ℕ). replicate k 0) f

-- what a report is written of
module _ (bytes : List ℕ) (l : Layout) (s : code.Facts) (within : Within l bytes) (ok : Accepted (said l bytes)) where
  stands_at : Tied (said l bytes) (path_of s) → (t : ℕ) → 1 ≤ t → t ≤ l.terms → rep_of s.rep t ≤ 16
  unfolding path_of
  stands_at tied t lo hi =
      let r = live_range (term_count (said l bytes)) (path_of s) ((path_of s).rep t) (tied.rep_live t (lo, subst (λ (n : ℕ). t ≤ n) (sym (terms-said l bytes within)) hi)) in
      omega (arith, r, ok.term_count_lem)

  pub reportable : (order : List ℕ) → our_walk order (said l bytes) ≡ saturation (path_of s) → Reportable l bytes s
  reportable order h =
      let tied = saturated_tied (said l bytes) order (path_of s) ok h in
      record { laid = within; passes = ok; stands = stands_at tied; linked = tied.same_links }

  pub report_room : (room : ℕ) → Reportable l bytes s → 37 + 16 * l.links ≤ room → 37 + 16 * (path_of s).links ≤ room
  unfolding said
  report_room room ready h = omega (arith, ready.linked)

-- a report has room for the links of the form
pub room_of : (f : CallForm) → FormLaws f → (l : Layout) (query : List ℕ) (room : ℕ) → Taken f l query → f.room ≤ room → 37 + 16 * l.links ≤ room
room_of f laws l query room h k =
    let e : l.links ≡ f.links = said-links l query ∙ ap (λ (q : Query). q.links) h.says ∙ laws.same_links query in
    omega (arith, laws.roomy, e, k)

-- What a call does that takes queries of this form
module _ (f : CallForm) (laws : FormLaws f) (order query before bytes : List ℕ) where
  abbrev i : Input
  i = input_of order query before

  pub verdict_order : is_order order ≡ false → bytes ≡ replicate (length before) 0 → Does (verdict_call_of f i) (answer.Refused 1 0) bytes
  unfolding verdict_call_of verdict_checks_of
  verdict_order o b = does_blank _ (length before) (answer.Refused 1 0) bytes (call_refused i f (verdict_checks_of f) _ (refused 1 0) (order_refused i _ o)) b

  pub verdict_query : (k place : ℕ) → is_order order ≡ true → ((j : Input) → j.query ≡ query → refusal_of f.checks j ≡ some (refused k place)) → bytes ≡ replicate (length before) 0 → Does (verdict_call_of f i) (answer.Refused k place) bytes
  unfolding verdict_call_of verdict_checks_of
  verdict_query k place o h b =
      does_blank _ (length before) (answer.Refused k place) bytes (call_refused i f (verdict_checks_of f) _ (refused k place) (query_refused i f.checks _ (refused k place) o (h i refl))) b

  pub verdict_room : (l : Layout) → is_order order ≡ true → Taken f l query → length before < f.room → bytes ≡ replicate (length before) 0 → Does (verdict_call_of f i) (answer.Refused 9 0) bytes
  unfolding verdict_call_of
  verdict_room l o h r b =
      does_blank _ (length before) (answer.Refused 9 0) bytes (call_refused i f (verdict_checks_of f) _ (refused 9 0) (room_refused i f o (h.free i refl) r)) b

  pub verdict_walked : (l : Layout) (r : Answer) (room : ℕ) → is_order order ≡ true → Taken f l query → room ≡ length before → f.room ≤ room →
      Does (verdict_of (said l query) room (our_walk order (said l query))) r bytes → Does (verdict_call_of f i) r bytes
  unfolding verdict_call_of
  verdict_walked l r room o h e k d =
      subst (λ (x : calls.Outcome). Does x r bytes)
      (ap (λ (q : Query). verdict_of q room (our_walk order q)) h.says
      ∙ ap (λ (n : ℕ). verdict_of (f.decode query) n (our_walk order (f.decode query))) e
      ∙ sym (call_walked i f (verdict_checks_of f) _ (verdict_clear i f o (h.free i refl) (subst (λ (n : ℕ). f.room ≤ n) e k))))
      d

  pub derivation_order : is_order order ≡ false → bytes ≡ replicate (length before) 0 → Does (derivation_call_of f i) (answer.Refused 1 0) bytes
  unfolding derivation_call_of derivation_checks_of
  derivation_order o b = does_blank _ (length before) (answer.Refused 1 0) bytes (call_refused i f (derivation_checks_of f) _ (refused 1 0) (order_refused i _ o)) b

  pub derivation_query : (k place : ℕ) → is_order order ≡ true → ((j : Input) → j.query ≡ query → refusal_of f.checks j ≡ some (refused k place)) → bytes ≡ replicate (length before) 0 →
      Does (derivation_call_of f i) (answer.Refused k place) bytes
  unfolding derivation_call_of
  derivation_query k place o h b =
      does_blank _ (length before) (answer.Refused k place) bytes (call_refused i f (derivation_checks_of f) _ (refused k place) (derivation_refused i f (refused k place) o (h i refl))) b

  pub derivation_walked : (l : Layout) (r : Answer) (room : ℕ) → is_order order ≡ true → Taken f l query → room ≡ length before →
      Does (derivation_of room (our_walk order (said l query))) r bytes → Does (derivation_call_of f i) r bytes
  unfolding derivation_call_of
  derivation_walked l r room o h e d =
      subst (λ (x : calls.Outcome). Does x r bytes)
      (ap (λ (q : Query). derivation_of room (our_walk order q)) h.says
      ∙ ap (λ (n : ℕ). derivation_of n (our_walk order (f.decode query))) e
      ∙ sym (call_walked i f (derivation_checks_of f) _ (derivation_clear i f o (h.free i refl))))
      d
