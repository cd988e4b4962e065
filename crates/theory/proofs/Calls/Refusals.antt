-- How a call refuses: what either call's refusals have in common, from what its walk's ending makes of it.
use Prim.Native.Nat.{ℕ, ◌≤◌, ◌<◌}
use native.Mathlib.Omega.{arith}
use mathlib.Core.Path.{◌≡◌, refl, sym, ap, ◌∙◌, subst, subst₂}
use mathlib.Core.Logic.{◌⊎◌, ⊎_elim, inl, inr}
use mathlib.Core.Bool.{Bool, true, not, false≢true}
use mathlib.Core.List.Memᴰ
use mathlib.Core.List.{List, [], ◌∷◌, ◌++◌, Memᴰ}
use mathlib.Core.List.{map, map-append}
use mathlib.Core.Option.{Option, none, some, Option-elim}
use lib.ListN.{length, replicate}
use lib.Dec.{eqb, ltb}
use Rattle.logic.specs.Search.{◌and◌, all, keep, from, or_else}
use Rattle.logic.specs.Query.{sections, is_order}
use Rattle.logic.specs.Walk.{Ending}
use Rattle.logic.specs.Calls.{Input, Check, order_check, layout_check, byte_check, form_checks, room_under, query_checks, CallForm}
use Rattle.logic.specs.Calls.{one_link_form, verdict_checks_of, derivation_checks_of, Answer, refused, refusal_of, Outcome, blank, call}
use Rattle.logic.specs.Demands.{NoneStands, FirstStands, numbers, walk_of, Refusals}
use Rattle.theory.proofs.Basics.Search.{all_true, keep_some, map-mem, map_intro}
use Rattle.theory.proofs.Basics.Compare.{le_cases}
use Rattle.theory.proofs.Query.AcceptedBytes.{form_elim, accepted, decode-links}
use Rattle.theory.proofs.Query.Bytes.{layout_numbers, LayoutNumber}
use Rattle.theory.proofs.Query.Places.{layout-place, byte_place}
use Rattle.theory.proofs.Calls.CheckingOrder.{Early, query_early, refusal_first, first_refusal, first_unique, first_numbered, first_stands, first_up_to}
use Rattle.theory.proofs.Calls.CallLaws.{InQuery, Placed, FormLaws, query-local, refusal_of-some, refusal_of-none, refusal_of-append, refusal_of_clear, call_cases, blank-length}

-- what a refusal holds
pub refused_one : {k p k' p' : ℕ} → refused k p ≡ refused k' p' → (k ≡ k') × (p ≡ p')
refused_one e = (cc, cc)

-- what a blank outcome answers and leaves
pub blank-answer : (o : Outcome) (room : ℕ) (a : Answer) → o ≡ blank room a → o.answer ≡ a
unfolding blank
blank-answer o room a e = ap (λ (x : Outcome). x.answer) e

pub blank-lent : (o : Outcome) (room : ℕ) (a : Answer) → o ≡ blank room a → o.lent ≡ replicate room 0
unfolding blank
blank-lent o room a e = ap (λ (x : Outcome). x.lent) e

-- The place of a refusal by checks.
zero-placed : (longest : ℕ) (c : Check) (i : Input) (b : Bool) → c.place i ≡ keep b 0 → Placed longest (c ∷ []) i
zero-placed longest c i b e k place h =
    let (d, m, (p, s, q)) = refusal_of-some (c ∷ []) i _ h in
    let own = ⊎_elim (λ o. o) (λ o. absurd (Memᴰ.not-nil o)) (Memᴰ.cases_cons m) in
    let z = (keep_some b (sym e ∙ sym (ap (λ (x : Check). x.place i) own) ∙ s)).1 in
    let w = (refused_one q).1 in
    (omega (arith, z, w), omega (arith, z, w))

-- what holds of every refusal by some checks and by others holds of those by both
pub both_placed : (longest : ℕ) (cs ds : List Check) (i : Input) → Placed longest cs i → (NoneStands cs i → Placed longest ds i) → Placed longest (cs ++ ds) i
unfolding or_else
both_placed longest cs ds i first then k place h = go (refusal_of cs i) refl (sym (refusal_of-append cs i ds) ∙ h)
  where
    go : (o : Option Answer) → refusal_of cs i ≡ o → or_else (refusal_of cs i) (refusal_of ds i) ≡ some (refused k place) → InQuery longest i.query place
    go none e g = then (refusal_of-none cs i e) k place (ap (λ (o : Option Answer). or_else o (refusal_of ds i)) (sym e) ∙ g)
    go (some a) e g = first k place (e ∙ (ap (λ (o : Option Answer). or_else o (refusal_of ds i)) (sym e) ∙ g))

-- Those of a query in the form of 01 are met in their order: a single byte's only where the walk from the front meets none.
pub query-placed : (i : Input) → Placed 561 query_checks i
unfolding query_checks form_checks layout_numbers from layout_check byte_check
query-placed i = both_placed 561 (map (layout_check sections) layout_numbers) (map (byte_check sections) (from 4 5)) i front single
  where
    front : Placed 561 (map (layout_check sections) layout_numbers) i
    front k place h =
        let (c, m, (p, s, q)) = refusal_of-some (map (layout_check sections) layout_numbers) i _ h in
        let (j, n, e) = map-mem (layout_check sections) c layout_numbers m in
        layout-place j i.query place (sym (ap (λ (x : Check). x.place i) e) ∙ s ∙ ap some (sym (refused_one q).1))

    single : NoneStands (map (layout_check sections) layout_numbers) i → Placed 561 (map (byte_check sections) (from 4 5)) i
    single passed k place h =
        let (c, m, (p, s, q)) = refusal_of-some (map (byte_check sections) (from 4 5)) i _ h in
        let (j, n, e) = map-mem (byte_check sections) c (from 4 5) m in
        byte_place j i.query place (λ l o. passed (layout_check sections l) (map_intro (layout_check sections) l o)) (sym (ap (λ (x : Check). x.place i) e) ∙ s ∙ ap some (sym (refused_one q).1))

-- none of these checks is that of the report's room
not_nine : (k : ℕ) → LayoutNumber k → k ≡ 9 → ⊥
unfolding layout_numbers all ◌and◌
not_nine k m e = false≢true (subst (λ (x : ℕ). not (eqb x 9) ≡ true) e (all_true (λ x. not (eqb x 9)) k {xs = layout_numbers} refl m))

query-not_nine : (c : Check) → Memᴰ c query_checks → c.number ≡ 9 → ⊥
unfolding query_checks layout_check byte_check
query-not_nine = form_elim sections (λ (x : Check). x.number ≡ 9 → ⊥) (λ k m q. not_nine k m q) (λ k l u q. omega (arith, q, u))

-- what is known of the form of 01
pub one_link_laws : FormLaws one_link_form
one_link_laws =
    record {
      accepted_query = accepted;
      same_links = decode-links;
      local = query-local;
      early = λ k m. (query_early k m, query_nine k m);
      placed = query-placed;
      roomy = omega arith;
    }
  where
    query_nine : (k : ℕ) → Memᴰ k (numbers query_checks) → k ≡ 9 → ⊥
    query_nine k m e =
        let (c, n, q) = map-mem (λ (c : Check). c.number) k query_checks m in
        query-not_nine c n (sym q ∙ e)

module _ (f : CallForm) (laws : FormLaws f) where
  pub derivation_placed : (i : Input) → Placed f.longest (derivation_checks_of f) i
  unfolding derivation_checks_of order_check
  derivation_placed i = both_placed f.longest (order_check ∷ []) f.checks i (zero-placed f.longest order_check i (not (is_order i.order)) refl) (λ n. laws.placed i)

  pub verdict_placed : (i : Input) → Placed f.longest (verdict_checks_of f) i
  unfolding verdict_checks_of order_check room_under
  verdict_placed i =
      both_placed f.longest (order_check ∷ []) (f.checks ++ (room_under f.room ∷ [])) i (zero-placed f.longest order_check i (not (is_order i.order)) refl)
      (λ n. both_placed f.longest f.checks (room_under f.room ∷ []) i (laws.placed i) (λ m. zero-placed f.longest (room_under f.room) i (ltb i.room f.room) refl))

  -- checks 1 and 9 are met before the walk too
  pub derivation_early : (k : ℕ) → Memᴰ k (numbers (derivation_checks_of f)) → Early k
  unfolding derivation_checks_of order_check
  derivation_early k m = ⊎_elim (λ e. (omega (arith, e), inl (omega (arith, e)))) (λ n. (laws.early k n).0) (Memᴰ.cases_cons m)

  pub verdict_early : (k : ℕ) → Memᴰ k (numbers (verdict_checks_of f)) → Early k
  unfolding verdict_checks_of order_check room_under
  verdict_early k m =
      ⊎_elim (λ e. (omega (arith, e), inl (omega (arith, e))))
      (λ n. ⊎_elim (λ n'. (laws.early k n').0) (λ n'. ⊎_elim (λ e. (omega (arith, e), inl (omega (arith, e)))) (λ n''. absurd (Memᴰ.not-nil n'')) (Memᴰ.cases_cons n'))
      (Memᴰ.append_cases (numbers f.checks) (subst (λ (ks : List ℕ). Memᴰ k ks) (map-append (λ (c : Check). c.number) f.checks (room_under f.room ∷ [])) n)))
      (Memᴰ.cases_cons m)

-- A refusal that the walk's ending gives: its place is 0, it is 11 or 12, and all that was lent is zero.
pub record Late (room k place : ℕ) (lent : List ℕ) : Type 0 where
  pub placed : place ≡ 0
  pub above : 11 ≤ k
  pub below : k ≤ 12
  pub zeros : lent ≡ replicate room 0

-- What this asks of a call: the numbers and places of its checks, and what its walk's ending makes of it where none of them stands.
pub record Lawful (form : CallForm) (cs : List Check) (result : Input → Ending → Outcome) : Type 0 where
  pub early : (k : ℕ) → Memᴰ k (numbers cs) → Early k
  pub placed : (i : Input) → Placed form.longest cs i
  pub late : (i : Input) (w : Ending) (k place : ℕ) → (result i w).answer ≡ refused k place → Late i.room k place (result i w).lent
  pub whole : (i : Input) → NoneStands cs i → length (result i (walk_of form i)).lent ≡ i.room

-- what a call does, by cases: the first of its checks that stands, or what its walk says
pub data CallCase (form : CallForm) (cs : List Check) (result : Input → Ending → Outcome) (i : Input) (o : Outcome) : Type 0 where
  by_check : (k place : ℕ) → FirstStands cs i k place → o ≡ blank i.room (refused k place) → CallCase form cs result i o
  by_walk : NoneStands cs i → o ≡ result i (walk_of form i) → CallCase form cs result i o

-- where no check stands
pub call_clear : (form : CallForm) (cs : List Check) (result : Ending → Outcome) (i : Input) → NoneStands cs i → call form cs result i ≡ result (walk_of form i)
unfolding call Option-elim
call_clear form cs result i h = rw (refusal_of_clear cs i h)

module _ (form : CallForm) (cs : List Check) (result : Input → Ending → Outcome) (lawful : Lawful form cs result) where
  abbrev outcome : Input → Outcome
  outcome i = call form cs (result i) i

  -- a refusal: by the first check that stands, or a late one
  abbrev RefusedBy : Input → Outcome → ℕ → ℕ → Type 0
  RefusedBy i o k place =
      (FirstStands cs i k place × (o.lent ≡ replicate i.room 0))
      ⊎ (NoneStands cs i × Late i.room k place o.lent)

  pub call_case : (i : Input) → CallCase form cs result i (call form cs (result i) i)
  call_case i =
      ⊎_elim
      (λ p. let f = refusal_first cs i p.0 p.1 in
      by_check f.0 f.1 f.2 (p.2 ∙ ap (blank i.room) f.3))
      (λ p. by_walk (refusal_of-none cs i p.0) p.1)
      (call_cases cs i form (result i))

  -- a refusal by a check is none by the walk's ending
  early_late : (i : Input) (k place : ℕ) (lent : List ℕ) → Memᴰ k (numbers cs) → Late i.room k place lent → ⊥
  early_late i k place lent m l =
      ⊎_elim (λ u. omega (arith, u, l.above)) (λ e. omega (arith, e, l.below)) (lawful.early k m).1

  module _ (i : Input) (o : Outcome) where
    refused_by : (k place : ℕ) → o.answer ≡ refused k place → CallCase form cs result i o → RefusedBy i o k place
    refused_by k place h (by_check j p f e) =
        let q = refused_one (sym (blank-answer o i.room _ e) ∙ h) in
        inl (subst₂ (FirstStands cs i) q.0 q.1 f, blank-lent o i.room _ e)
    refused_by k place h (by_walk n e) =
        inr (n, subst (λ (x : Outcome). x.answer ≡ refused k place → Late i.room k place x.lent) (sym e) (lawful.late i (walk_of form i) k place) h)

    first_answered : (k place : ℕ) → FirstStands cs i k place → CallCase form cs result i o → o.answer ≡ refused k place
    first_answered k place f (by_check j p g e) =
        let u = first_unique cs i j p k place g f in
        blank-answer o i.room _ e ∙ ap (λ (x : ℕ). refused x p) u.0 ∙ ap (refused k) u.1
    first_answered k place f (by_walk n e) = absurd (first_stands cs i k place n f)

    case_whole : CallCase form cs result i o → length o.lent ≡ i.room
    case_whole (by_check j p g e) = ap (λ (x : Outcome). length x.lent) e ∙ blank-length i.room _
    case_whole (by_walk n e) = ap (λ (x : Outcome). length x.lent) e ∙ lawful.whole i n

  by : (i : Input) (k place : ℕ) → (outcome i).answer ≡ refused k place → RefusedBy i (outcome i) k place
  by i k place h = refused_by i (outcome i) k place h (call_case i)

  late_numbered : (i : Input) (k place : ℕ) (lent : List ℕ) → Late i.room k place lent → Memᴰ k (11 ∷ 12 ∷ [])
  late_numbered i k place lent l =
      ⊎_elim (λ (u : k ≤ 11). Memᴰ.head (let e : k ≡ 11 = omega (arith, u, l.above) in
      e)) (λ (u : 11 < k). Memᴰ.tail (Memᴰ.head (let e : k ≡ 12 = omega (arith, u, l.below) in e))) (le_cases k 11)

  pub refusals : Refusals cs form.longest outcome
  refusals =
      record {
        first_exactly = λ i k place m. (
          λ h. ⊎_elim (λ f. f.0) (λ n. absurd (early_late i k place _ m n.1)) (by i k place h),
          λ f. first_answered i (outcome i) k place f (call_case i),
        );
        refusal_made = λ i c before behind place e s.
            let (k, p, f, g) = first_up_to cs i c before behind place e s in
            (k, p, first_answered i (outcome i) k p g (call_case i), f);
        never_ten = λ i place h. ⊎_elim
            (λ f. ⊎_elim (λ u. omega (arith, u)) (λ e. omega (arith, e)) (lawful.early 10 (first_numbered cs i 10 place f.0)).1)
            (λ n. omega (arith, n.1.above)) (by i 10 place h);
        refusal_numbered = λ i k place h. ⊎_elim
            (λ f. Memᴰ.append_left (11 ∷ 12 ∷ []) (first_numbered cs i k place f.0))
            (λ n. Memᴰ.append_right (numbers cs) (late_numbered i k place _ n.1)) (by i k place h);
        refusal_placed = λ i k place h. ⊎_elim
            (λ f. lawful.placed i k place (first_refusal cs i k place f.0))
            (λ n. (omega (arith, n.1.placed), omega (arith, n.1.placed))) (by i k place h);
        refusal_blank = λ i k place h. ⊎_elim (λ f. f.1) (λ n. n.1.zeros) (by i k place h);
        lent_whole = λ i. case_whole i (outcome i) (call_case i);
      }
