-- What the joining call answers, by cases, and so how it refuses and how long a query it writes. Assumes nothing.
use Prim.Native.Nat.{ℕ, ◌+◌, ◌-◌, ◌≤◌}
use native.Mathlib.Omega.{arith}
use mathlib.Core.Path.{◌≡◌, refl, sym, ap, ap₂, ◌∙◌, subst}
use mathlib.Core.Logic.{◌⊎◌, inl, inr, ⊎_elim}
use mathlib.Core.Bool.{true, false}
use mathlib.Core.List.{List, ◌++◌}
use mathlib.Core.Option.{Option-elim}
use lib.ListN.{length, take, replicate, length-replicate}
use lib.Seq.{take_at}
use lib.Dec.{leb}
use borrow.Author.Tests.{leb-true, le-leb}
use Rattle.logic.specs.Search.{◌and◌}
use Rattle.logic.specs.Query.{Query, term_count, decode}
use Rattle.logic.specs.Calls.{query_checks, accepts, padded}
use Rattle.logic.specs.Demands.{FirstStands}
use Rattle.theory.proofs.Basics.Search.{true-false, not_of, and_left, and_right, and_intro, bool_cases}
use Rattle.theory.proofs.Basics.Compare.{le_cases, cond-true, cond-false}
use Rattle.theory.proofs.Calls.CallLaws.{padded-length}
use Rattle.encoding.specs.QueryBytes.{encode, within_limits}
use Rattle.encoding.specs.WritingCall.{given}
use Rattle.encoding.proofs.Encoded.{Limits, limits_within, within_limits_lem}
use Rattle.encoding.proofs.Lengths.{encode_within}
use Rattle.joining.specs.Pairs.{Pair, pairs_of, is_pair_list}
use Rattle.joining.specs.Call.{Answer, written, first_refused, second_refused, refused, Outcome, of_first, of_second, blank, fitted, join_of, join_call}
use Rattle.joining.specs.Claims.{BothAccepted, ListsPairs, as_one, Exceeds, Fits, Unlisted, TooLarge, WrittenAs, JoinRefusals}
use Rattle.joining.proofs.Counts.{count_terms, count_equalities, count_reachability, count_fields}
use Rattle.joining.proofs.PairLists.{listed_lists, lists_pairs, lists_listed}
use Rattle.joining.proofs.Checks.{no_refusal, refusal_met, Checked, passes, stands, checked}

-- A query that fits, and one that does not

-- what is answered and left for bytes that are written
abbrev pub writes : ℕ → List ℕ → Outcome
writes room bytes = record { answer = written (length bytes); lent = padded room bytes }

module _ (room : ℕ) (first second : List ℕ) (ps : List Pair) where
  abbrev q : Query
  q = as_one first second ps

  fits_cases : Fits room first second ps ⊎ Exceeds room first second ps
  fits_cases =
      let a = decode first in
      let b = decode second in
      ⊎_elim (λ i. ⊎_elim (λ j. ⊎_elim (λ k. ⊎_elim (λ l. ⊎_elim (λ m. inl (record { terms = i; equalities = j; reachability = k; fields = l; output = m }))
      (λ m. inr (inr (inr (inr (inr m))))) (le_cases (length (encode q)) room))
      (λ l. inr (inr (inr (inr (inl l))))) (le_cases (length a.fields + length b.fields) 60))
      (λ k. inr (inr (inr (inl k)))) (le_cases (length a.reachability + length b.reachability) 60))
      (λ j. inr (inr (inl j))) (le_cases (length a.equalities + length b.equalities + length ps) 60))
      (λ i. inr (inl i)) (le_cases (term_count a + term_count b) 16)

  exceeds_not : Fits room first second ps → Exceeds room first second ps → ⊥
  exceeds_not f =
      ⊎_elim (λ i. omega (arith, f.terms))
      (⊎_elim (λ j. omega (arith, f.equalities))
      (⊎_elim (λ k. omega (arith, f.reachability)) (⊎_elim (λ l. omega (arith, f.fields)) (λ m. omega (arith, f.output)))))

  -- the limits of the joined query, whose sections have so many entries
  pub fits_limits : Fits room first second ps → Limits (as_one first second ps)
  fits_limits f =
      record {
        terms = omega (arith, f.terms, count_terms (decode first) (decode second) ps);
        equalities = omega (arith, f.equalities, count_equalities (decode first) (decode second) ps);
        reachability = omega (arith, f.reachability, count_reachability (decode first) (decode second) ps);
        fields = omega (arith, f.fields, count_fields (decode first) (decode second) ps);
      }

  limits_fits : Limits q → length (encode q) ≤ room → Fits room first second ps
  limits_fits l m =
      record {
        terms = omega (arith, l.terms, count_terms (decode first) (decode second) ps);
        equalities = omega (arith, l.equalities, count_equalities (decode first) (decode second) ps);
        reachability = omega (arith, l.reachability, count_reachability (decode first) (decode second) ps);
        fields = omega (arith, l.fields, count_fields (decode first) (decode second) ps);
        output = m;
      }

  fits_test : Fits room first second ps → within_limits q and leb (length (encode q)) room ≡ true
  fits_test f = and_intro (limits_within q (fits_limits f)) (le-leb _ room f.output)

  test_fits : within_limits q and leb (length (encode q)) room ≡ true → Fits room first second ps
  test_fits h = limits_fits (within_limits_lem q (and_left _ _ h)) (leb-true _ room (and_right _ _ h))

  fitted-writes : Fits room first second ps → fitted room q ≡ writes room (encode q)
  unfolding fitted
  fitted-writes f = cond-true _ _ (fits_test f)

  fitted_full : Exceeds room first second ps → fitted room q ≡ blank room (refused 24 0)
  unfolding fitted
  fitted_full x = cond-false _ _ (not_of (λ h. exceeds_not (test_fits h) x))

-- The call

module _ (first second pairs : List ℕ) (room : ℕ) where
  abbrev call : Outcome
  call = join_call first second pairs room

  call-first : (k place : ℕ) → FirstStands query_checks (given first 0) k place → call ≡ blank room (first_refused k place)
  unfolding join_call Option-elim of_first
  call-first k place f = rw (refusal_met first k place f)

  call-second : (k place : ℕ) → accepts first ≡ true → FirstStands query_checks (given second 0) k place → call ≡ blank room (second_refused k place)
  unfolding join_call Option-elim of_second
  call-second k place h f = rw (no_refusal first h, refusal_met second k place f)

  call_joins : BothAccepted first second → call ≡ join_of (decode first) (decode second) pairs room
  unfolding join_call Option-elim
  call_joins h = rw (no_refusal first h.0, no_refusal second h.1)

  call_unlisted : BothAccepted first second → is_pair_list (term_count (decode first)) (term_count (decode second)) pairs ≡ false → call ≡ blank room (refused 23 0)
  unfolding join_of
  call_unlisted h u = call_joins h ∙ cond-false _ _ u

  call_listed : (ps : List Pair) → BothAccepted first second → ListsPairs first second pairs ps → call ≡ fitted room (as_one first second ps)
  unfolding join_of
  call_listed ps h l = call_joins h ∙ cond-true _ _ (lists_listed _ _ pairs ps l) ∙ ap (λ (xs : List Pair). fitted room (as_one first second xs)) (lists_pairs _ _ pairs ps l)

  -- what each answer means
  abbrev Means : Answer → Type 0
  Means (written n) = BothAccepted first second × WrittenAs first second pairs room n
  Means (first_refused k place) = FirstStands query_checks (given first 0) k place
  Means (second_refused k place) = (accepts first ≡ true) × FirstStands query_checks (given second 0) k place
  Means (refused k place) =
      ((k ≡ 23) × (place ≡ 0) × BothAccepted first second × Unlisted first second pairs room)
      ⊎ ((k ≡ 24) × (place ≡ 0) × BothAccepted first second × TooLarge first second pairs room)

  -- and what it leaves
  abbrev Leaves : Outcome → Type 0
  Leaves o = Means o.answer × (length o.lent ≡ room) × (((n : ℕ) → o.answer ≡ written n → ⊥) → o.lent ≡ replicate room 0)

  blanks : (a : Answer) → Means a → Leaves (blank room a)
  unfolding blank
  blanks a m = (m, length-replicate room _, λ w. refl)

  listed_leaves : (ps : List Pair) → BothAccepted first second → ListsPairs first second pairs ps → Leaves call
  listed_leaves ps h l =
      subst Leaves (sym (call_listed ps h l))
      (⊎_elim
      (λ f. subst Leaves (sym (fitted-writes room first second ps f)) ((h, (ps, l, f, refl)), padded-length room _ f.output, λ w. absurd (w _ refl)))
      (λ x. subst Leaves (sym (fitted_full room first second ps x)) (blanks _ (inr (refl, refl, h, (ps, l, x)))))
      (fits_cases room first second ps))

  accepted_leaves : BothAccepted first second → Leaves call
  accepted_leaves h =
      let n = term_count (decode first) in
      let m = term_count (decode second) in
      ⊎_elim
      (λ u. listed_leaves (pairs_of pairs) h (listed_lists n m pairs u))
      (λ u. subst Leaves (sym (call_unlisted h u)) (blanks _ (inl (refl, refl, h, λ ps l. true-false (lists_listed n m pairs ps l) u))))
      (bool_cases (is_pair_list n m pairs))

  leaves : Leaves call
  leaves = go (checked first) (checked second)
    where
      go : Checked first → Checked second → Leaves call
      go (stands k place f) s = subst Leaves (sym (call-first k place f)) (blanks _ f)
      go (passes h) (stands k place f) = subst Leaves (sym (call-second k place h f)) (blanks _ (h, f))
      go (passes h) (passes g) = accepted_leaves (h, g)

  pub means : (a : Answer) → call.answer ≡ a → Means a
  means a e = subst Means e leaves.0

  -- a blank output's answer
  answers : (a : Answer) → call ≡ blank room a → call.answer ≡ a
  unfolding blank
  answers a e = ap (λ (o : Outcome). o.answer) e

  pairs_only : (place : ℕ) → Means (refused 23 place) → (place ≡ 0) × BothAccepted first second × Unlisted first second pairs room
  pairs_only place = ⊎_elim (λ r. (r.1, r.2, r.3)) (λ r. absurd (omega (arith, r.0)))

  room_only : (place : ℕ) → Means (refused 24 place) → (place ≡ 0) × BothAccepted first second × TooLarge first second pairs room
  room_only place = ⊎_elim (λ r. absurd (omega (arith, r.0))) (λ r. (r.1, r.2, r.3))

  pairs_if : (place : ℕ) → (place ≡ 0) × BothAccepted first second × Unlisted first second pairs room → call.answer ≡ refused 23 place
  pairs_if place h =
      let n = term_count (decode first) in
      let m = term_count (decode second) in
      ⊎_elim (λ u. absurd (h.2 (pairs_of pairs) (listed_lists n m pairs u))) (λ u. answers _ (call_unlisted h.1 u) ∙ ap (refused 23) (sym h.0)) (bool_cases (is_pair_list n m pairs))

  pub refusals : JoinRefusals first second pairs room
  refusals =
      record {
        first_exactly = λ k place. (means (first_refused k place), λ f. answers _ (call-first k place f));
        second_exactly = λ k place. (means (second_refused k place), λ h. answers _ (call-second k place h.0 h.1));
        pairs_exactly = λ place. (λ e. pairs_only place (means (refused 23 place) e), pairs_if place);
        room_exactly = λ place. (
          λ e. room_only place (means (refused 24 place) e),
          λ h. let (ps, l, x) = h.2 in answers _ (call_listed ps h.1 l ∙ fitted_full room first second ps x) ∙ ap (refused 24) (sym h.0),
        );
        refusal_numbered = λ k place e. ⊎_elim (λ r. inl r.0) (λ r. inr r.0) (means (refused k place) e);
        written_exactly = λ n. (
          means (written n),
          λ h. let (ps, l, f, e) = h.1 in ap (λ (o : Outcome). o.answer) (call_listed ps h.0 l ∙ fitted-writes room first second ps f) ∙ ap written (sym e),
        );
        refusal_blank = leaves.2;
        lent_whole = leaves.1;
      }

  -- what is written has at most as many bytes as the longest query, and as were lent
  pub join_length : (n : ℕ) → (join_call first second pairs room).answer ≡ written n → (n ≤ 561) × (n ≤ room)
  join_length n e =
      let (ps, l, f, c) = (means (written n) e).1 in
      (omega (arith, c, encode_within (as_one first second ps) (fits_limits room first second ps f)), omega (arith, c, f.output))

  -- what is written for the pairs that are listed
  pub record Wrote (n : ℕ) (ps : List Pair) : Type 0 where
    pub both : BothAccepted first second
    pub fits : Fits room first second ps
    pub taken_are : take n (join_call first second pairs room).lent ≡ encode (as_one first second ps)
    pub zeros_follow : (join_call first second pairs room).lent ≡ take n (join_call first second pairs room).lent ++ replicate (room - n) 0

  pub wrote : (n : ℕ) (ps : List Pair) → (join_call first second pairs room).answer ≡ written n → ListsPairs first second pairs ps → Wrote n ps
  unfolding padded
  wrote n ps e l =
      let (both, r) = means (written n) e in
      let (qs, m, f, c) = r in
      let same : qs ≡ ps = sym (lists_pairs _ _ pairs qs m) ∙ lists_pairs _ _ pairs ps l in
      let fits = subst (λ (xs : List Pair). Fits room first second xs) same f in
      let counted : n ≡ length (encode (as_one first second ps)) = c ∙ ap (λ (xs : List Pair). length (encode (as_one first second xs))) same in
      let lent = ap (λ (o : Outcome). o.lent) (call_listed ps both l ∙ fitted-writes room first second ps fits) in
      let taken_are : take n (join_call first second pairs room).lent ≡ encode (as_one first second ps) = ap (take n) lent ∙ take_at (encode (as_one first second ps)) _ n (sym counted) in
      record {
        both = both;
        fits = fits;
        taken_are = taken_are;
        zeros_follow = lent ∙ sym (ap₂ (λ (xs : List ℕ) (k : ℕ). xs ++ replicate (room - k) 0) taken_are counted);
      }
