-- Reordering the equalities of a query changes neither the verdict nor a byte of the report (02, R-9).
use Prim.Native.Nat.{ℕ, zero, suc, ◌≤◌}
use mathlib.Core.Path.{◌≡◌, refl, sym, ap, ◌∙◌, subst}
use mathlib.Core.Logic.{⊎_elim}
use mathlib.Core.Bool.{Bool, true, false, not, cond}
use mathlib.Core.List.{List, [], ◌∷◌, map, Memᴰ}
use mathlib.Core.Option.{Option, none, some, Option-elim}
use Rattle.logic.specs.Search.{◌and◌, select, or_else, first_of}
use Rattle.logic.specs.Query.{Literal, Query, term_count}
use Rattle.logic.specs.Facts.{Facts, Line, line, negated_at, plain_at, is_clash, clash_lines, clash, unjoined, and_then, settle, links_of, join_each, reach_each, nil_terms, join_nil, start_joins, start}
use Rattle.logic.specs.Rules.{Rule, Move, Fact, alternatives, branch, choose, move_line}
use Rattle.logic.specs.Walk.{Look, clashing, applying, saturated, look, Ending, refutation, saturation, after, then_ending, walk_branch, walk_each, end_at, walk, order_of, limit, our_walk}
use Rattle.logic.specs.Shown.{field_byte, report}
use Rattle.logic.specs.Calls.{Input, Check, order_check, room_under, CallForm, one_link_form, verdict_checks_of, Answer, refused, Outcome, refusal_of, accepts_by, blank, call, verdict_of, verdict_call_of}
use Rattle.logic.specs.Reordering.{join_terms, join_all, SameElements, Reordered, Held, JoinsAgree}
use Rattle.theory.proofs.Basics.Search.{none-some, not-true, and_left, and_right, or_cases, find-some, first_of_skip, select-mem, select_intro, map-mem, map_intro}
use Rattle.theory.proofs.Basics.Compare.{eqb-true}
use Rattle.theory.proofs.Query.Tied.{Accepted}
use Rattle.theory.proofs.Paths.Joined.{join_each_step}
use Rattle.theory.proofs.Paths.Kept.{Sane}
use Rattle.theory.proofs.Paths.Start.{nilled_sane}
use Rattle.theory.proofs.Paths.Invariant.{Invariant, start_invariant, branch_invariant}
use Rattle.theory.proofs.Joins.AnyOrder.{PairsIn, joins_any_order, two_joins}
use Rattle.theory.proofs.Joins.Reach.{reach_either_side, reach_any_side}
use Rattle.theory.proofs.Walks.Derives.{row-all}
use Rattle.theory.proofs.Soundness.ClashSound.{at_mem}
use Rattle.theory.proofs.Calls.CallLaws.{FormLaws, accepts_checks}
use Rattle.theory.proofs.Calls.Refusals.{one_link_laws}
use Rattle.theory.proofs.Completeness.NoClash.{equal_free, reach_free, field_free}

-- a query with other equalities
abbrev with_equalities : Query → List Literal → Query
with_equalities q es =
    record { links = q.links; entries = q.entries; equalities = es; reachability = q.reachability; fields = q.fields }

reordered_is : (q q' : Query) → Reordered q q' → with_equalities q q'.equalities ≡ q'
reordered_is q q' r = λ i. record { links = r.links i; entries = r.entries i; equalities = q'.equalities; reachability = r.reachability i; fields = r.fields i }

-- The start

-- the pairs of terms of the plain equalities
abbrev pair_of : Literal → ℕ × ℕ
pair_of l = (l.left, l.right)

plain_pairs : List Literal → List (ℕ × ℕ)
plain_pairs ls = map pair_of (select (λ l. l.plain) ls)

join_each_pairs : (n : ℕ) (ls : List Literal) (s : Facts) → (join_each n ls s).facts ≡ join_all n (plain_pairs ls) s
unfolding join_each unjoined join_all join_terms plain_pairs select
join_each_pairs n [] s = refl
join_each_pairs n (l ∷ ls) s = join_each_step n l ls s ∙ go l.plain refl (λ t. join_each_pairs n ls t)
  where
    go : (b : Bool) → l.plain ≡ b → ((t : Facts) → (join_each n ls t).facts ≡ join_all n (plain_pairs ls) t) →
        (join_each n ls (cond b (join_terms n (pair_of l) s) s)).facts ≡ join_all n (map pair_of (cond b (l ∷ select (λ k. k.plain) ls) (select (λ k. k.plain) ls))) s
    go true e ih = ih (join_terms n (pair_of l) s)
    go false e ih = ih s

plain_pairs-same : (ls ls' : List Literal) → ((l : Literal) → Memᴰ l ls → Memᴰ l ls') → (ab : ℕ × ℕ) → Memᴰ ab (plain_pairs ls) → Memᴰ ab (plain_pairs ls')
unfolding plain_pairs
plain_pairs-same ls ls' sub ab m =
    let p = map-mem pair_of ab (select (λ l. l.plain) ls) m in
    let k = select-mem (λ l. l.plain) p.0 ls p.1 in
    subst (λ (x : ℕ × ℕ). Memᴰ x (plain_pairs ls')) (sym p.2) (map_intro pair_of p.0 (select_intro (λ l. l.plain) p.0 (sub p.0 k.0) k.1))

plain_pairs_in : (q : Query) → Accepted q → PairsIn (term_count q) (plain_pairs q.equalities)
unfolding plain_pairs
plain_pairs_in q ok ab m =
    let p = map-mem pair_of ab (select (λ l. l.plain) q.equalities) m in
    let k = select-mem (λ l. l.plain) p.0 q.equalities p.1 in
    subst (λ (x : ℕ × ℕ). ((1 ≤ x.0) × (x.0 ≤ term_count q)) × ((1 ≤ x.1) × (x.1 ≤ term_count q))) (sym p.2) (ok.equal_terms p.0 k.0)

module _ (q : Query) (es : List Literal) (ok : Accepted q) (ok' : Accepted (with_equalities q es)) (same : SameElements q.equalities es) where
  abbrev q' : Query
  q' = with_equalities q es

  -- both begin with the same facts
  start-same : start q ≡ start q'
  unfolding start start_joins nil_terms and_then term_count links_of
  start-same =
      let n : ℕ = term_count q in
      let nilled : Facts = (join_nil n (nil_terms q) (settle n n (links_of q)).facts).facts in
      let h : Sane n nilled = nilled_sane q ok in
      ap (reach_each q.reachability)
      (join_each_pairs n q.equalities nilled
      ∙ joins_any_order n (plain_pairs q.equalities) (plain_pairs es) nilled (plain_pairs_in q ok) (plain_pairs_in q' ok')
      (λ ab. (plain_pairs-same q.equalities es (λ l. (same l).0) ab, plain_pairs-same es q.equalities (λ l. (same l).1) ab)) h
      ∙ sym (join_each_pairs n es nilled))

-- The clash: one path has a clash under both, or under neither

module _ (q : Query) (es : List Literal) (s : Facts) (sub : (l : Literal) → Memᴰ l es → Memᴰ l q.equalities) (free : clash q s ≡ none) where
  -- a literal that is negated where it stands, and passes a test
  negated : (ls : List Literal) (i : ℕ) (p : Literal → Bool) → negated_at ls i p ≡ true → (l : Literal) × Memᴰ l ls × (l.plain ≡ false) × (p l ≡ true)
  unfolding negated_at
  negated ls i p h = let r = at_mem ls i (λ l. not l.plain and p l) h in (r.0, r.1, not-true (and_left _ _ r.2), and_right _ _ r.2)

  plain : (ls : List Literal) (i : ℕ) (p : Literal → Bool) → plain_at ls i p ≡ true → (l : Literal) × Memᴰ l ls × (l.plain ≡ true) × (p l ≡ true)
  unfolding plain_at
  plain ls i p h = let r = at_mem ls i (λ l. l.plain and p l) h in (r.0, r.1, and_left _ _ r.2, and_right _ _ r.2)

  no_line : (l : Line) → is_clash (with_equalities q es) s l ≡ true → ⊥
  unfolding is_clash
  no_line (line nine section i j) h =
      ⊎_elim
      (λ e. ⊎_elim
      (λ p. let k = negated es i _ (and_right _ _ p) in equal_free q s free k.0 (sub k.0 k.1) k.2 (eqb-true _ _ k.3))
      (λ p. let k = negated q.reachability i _ (and_right _ _ p) in reach_free q s free k.0 k.1 k.2 k.3)
      (or_cases _ _ e))
      (λ p. let k = negated q.fields i _ (and_right _ _ p) in
      let m = plain q.fields j _ k.3 in
      field_free q s free k.0 m.0 k.1 m.1 k.2 m.2 (eqb-true _ _ (and_left _ _ m.3)) (eqb-true _ _ (and_right _ _ m.3)))
      (or_cases _ _ (and_right _ _ h))

  clash-free : clash (with_equalities q es) s ≡ none
  unfolding clash
  clash-free = go (clash (with_equalities q es) s) refl
    where
      go : (o : Option Line) → clash (with_equalities q es) s ≡ o → clash (with_equalities q es) s ≡ none
      go none e = e
      go (some l) e = absurd (no_line l (find-some (is_clash (with_equalities q es) s) (clash_lines (with_equalities q es)) l e).1)

-- The walk: it ends alike under both, with other lines perhaps

data Alike : Ending → Ending → Type 0 where
  both_refuted : (ls ms : List Line) → Alike (refutation ls) (refutation ms)
  both_saturated : (s : Facts) → Alike (saturation s) (saturation s)

after_alike : (ls ms : List Line) (e e' : Ending) → Alike e e' → Alike (after ls e) (after ms e')
unfolding after
after_alike ls ms e e' (both_refuted ls' ms') = both_refuted _ _
after_alike ls ms e e' (both_saturated s) = both_saturated s

then_ending_alike : (d d' e e' : Ending) → Alike d d' → Alike e e' → Alike (then_ending d e) (then_ending d' e')
unfolding then_ending
then_ending_alike d d' e e' (both_refuted ls ms) a = after_alike ls ms e e' a
then_ending_alike d d' e e' (both_saturated s) a = both_saturated s

walk_each_alike : (n : ℕ) (w w' : Facts → Ending) → ((s : Facts) → Alike (w s) (w' s)) → (s : Facts) (cs : List Fact) → Alike (walk_each n w s cs) (walk_each n w' s cs)
unfolding walk_each walk_branch
walk_each_alike n w w' each s [] = both_refuted [] []
walk_each_alike n w w' each s (c ∷ cs) = then_ending_alike _ _ _ _ (after_alike _ _ _ _ (each (branch n s c).facts)) (walk_each_alike n w w' each s cs)

-- what is seen at a path without a clash
abbrev rest : Option Move → Look
rest o = Option-elim o saturated applying

module _ (q : Query) (es : List Literal) (same : SameElements q.equalities es) (order : List Rule) where
  -- what a clash, or none, makes of a path
  clash_alike : (s : Facts) (e e' : Ending) → Alike e e' → Alike (Option-elim (clash q s) e (λ l. refutation (l ∷ []))) (Option-elim (clash (with_equalities q es) s) e' (λ l. refutation (l ∷ [])))
  unfolding Option-elim
  clash_alike s e e' a = go (clash q s) refl (clash (with_equalities q es) s) refl
    where
      go : (o : Option Line) → clash q s ≡ o → (o' : Option Line) → clash (with_equalities q es) s ≡ o' →
          Alike (Option-elim o e (λ l. refutation (l ∷ []))) (Option-elim o' e' (λ l. refutation (l ∷ [])))
      go none h none h' = a
      go none h (some l) h' = absurd (none-some (sym (clash-free q es s (λ k. (same k).1) h) ∙ h'))
      go (some l) h none h' = absurd (none-some (sym (clash-free (with_equalities q es) q.equalities s (λ k. (same k).0) h') ∙ h))
      go (some l) h (some l') h' = both_refuted (l ∷ []) (l' ∷ [])

  -- a path is looked at alike
  end_at-clash : (p : Query) (s : Facts) (go : Move → Ending) → end_at s go (look p order s) ≡ Option-elim (clash p s) (end_at s go (rest (choose (term_count p) order s))) (λ l. refutation (l ∷ []))
  unfolding look end_at Option-elim
  end_at-clash p s go = at (clash p s)
    where
      at : (o : Option Line) → end_at s go (Option-elim o (rest (choose (term_count p) order s)) clashing) ≡ Option-elim o (end_at s go (rest (choose (term_count p) order s))) (λ l. refutation (l ∷ []))
      at none = refl
      at (some l) = refl

  end_at_alike : (s : Facts) (go go' : Move → Ending) → ((m : Move) → Alike (go m) (go' m)) → Alike (end_at s go (look q order s)) (end_at s go' (look (with_equalities q es) order s))
  unfolding end_at Option-elim term_count
  end_at_alike s go go' each = rw (end_at-clash q s go, end_at-clash (with_equalities q es) s go') (clash_alike s _ _ (at_choice (choose (term_count q) order s)))
    where
      at_choice : (o : Option Move) → Alike (end_at s go (rest o)) (end_at s go' (rest o))
      at_choice none = both_saturated s
      at_choice (some m) = each m

  walk_alike : (k : ℕ) (s : Facts) → Alike (walk q order k s) (walk (with_equalities q es) order k s)
  unfolding walk walk_each term_count
  walk_alike zero s = clash_alike s (saturation s) (saturation s) (both_saturated s)
  walk_alike (suc k) s = end_at_alike s _ _
      (λ m. after_alike (move_line m ∷ []) (move_line m ∷ []) _ _ (walk_each_alike (term_count q) _ _ (λ t. walk_alike k t) s (alternatives (term_count q) s.graph m)))

-- The call

verdict_alike : (q : Query) (es : List Literal) (room : ℕ) (e e' : Ending) → Alike e e' → verdict_of q room e ≡ verdict_of (with_equalities q es) room e'
unfolding verdict_of report term_count field_byte
verdict_alike q es room e e' (both_refuted ls ms) = refl
verdict_alike q es room e e' (both_saturated s) = refl

our_alike : (q : Query) (es : List Literal) → Accepted q → Accepted (with_equalities q es) → SameElements q.equalities es → (order : List ℕ) →
    Alike (our_walk order q) (our_walk order (with_equalities q es))
unfolding our_walk limit term_count
our_alike q es ok ok' same order =
    after_alike _ _ _ _
    (subst (λ (s : Facts). Alike (walk q (order_of order) (limit q) (start q)) (walk (with_equalities q es) (order_of order) (limit q) s))
    (start-same q es ok ok' same) (walk_alike q es same (order_of order) (limit q) (start q)))

walked : (order : List ℕ) (room : ℕ) (q q' : Query) → Accepted q → Accepted q' → Reordered q q' → verdict_of q room (our_walk order q) ≡ verdict_of q' room (our_walk order q')
walked order room q q' ok ok' r =
    let e = reordered_is q q' r in
    let es : List Literal = q'.equalities in
    verdict_alike q es room _ _ (our_alike q es ok (subst Accepted (sym e) ok') r.equalities order) ∙ ap (λ (p : Query). verdict_of p room (our_walk order p)) e

-- the answer that a check gives
abbrev answer_at : Input → Check → Option Answer
answer_at i c = Option-elim (c.place i) none (λ place. some (refused c.number place))

module _ (f : CallForm) (laws : FormLaws f) where
  -- the checks of an accepted query stand aside: what is left reads the order list and the room
  refusal_same : (i j : Input) → i.order ≡ j.order → i.room ≡ j.room → accepts_by f i.query ≡ true → accepts_by f j.query ≡ true →
      refusal_of (verdict_checks_of f) i ≡ refusal_of (verdict_checks_of f) j
  unfolding verdict_checks_of order_check room_under refusal_of first_of Option-elim
  refusal_same i j e g a b = refusal_rest i a ∙ (λ k. left (e k) (g k)) ∙ sym (refusal_rest j b)
    where
      left : List ℕ → ℕ → Option Answer
      left order room = refusal_of (order_check ∷ room_under f.room ∷ []) (record { order = order; query = []; room = room })

      refusal_rest : (i : Input) → accepts_by f i.query ≡ true → refusal_of (verdict_checks_of f) i ≡ left i.order i.room
      refusal_rest i a = ap (or_else (answer_at i order_check)) (first_of_skip (answer_at i) f.checks (room_under f.room ∷ []) (λ c m. rw (accepts_checks f laws i a c m)))

  report_stays : (order query query' : List ℕ) (room : ℕ) → accepts_by f query ≡ true → accepts_by f query' ≡ true →
      Reordered (f.decode query) (f.decode query') → verdict_call_of f (record { order = order; query = query; room = room }) ≡ verdict_call_of f
      (record { order = order; query = query'; room = room })
  unfolding verdict_call_of call
  report_stays order query query' room a a' r =
      let i : Input = record { order = order; query = query; room = room } in
      let j : Input = record { order = order; query = query'; room = room } in
      rw (refusal_same i j refl refl a a')
      (ap (λ (o : Outcome). Option-elim (refusal_of (verdict_checks_of f) j) o (blank room))
      (walked order room (f.decode query) (f.decode query') (laws.accepted_query query a) (laws.accepted_query query' a') r))

-- facts that a walk can hold are sane
pub held_sane : (q : Query) → Accepted q → (s : Facts) → Held q s → Sane (term_count q) s
held_sane q ok s h =
    (row-all q (Invariant q) (λ s s' m i c a k. branch_invariant q s m i a s' k) (start_invariant q ok) h.0 s h.1).sane

pub joins_agree_of : (f : CallForm) → FormLaws f → JoinsAgree f
joins_agree_of f laws =
    record {
      joins_any_order = λ query s ps qs a h r r' same. joins_any_order (term_count (f.decode query)) ps qs s r r' same (held_sane (f.decode query) (laws.accepted_query query a) s h);
      two_joins = λ query s ab cd a h r.
          two_joins (term_count (f.decode query)) ab cd s (r ab (Memᴰ.head refl)) (r cd (Memᴰ.tail (Memᴰ.head refl))) (held_sane (f.decode query) (laws.accepted_query query a) s h);
      reach_any_side = λ n i s ab ps. reach_any_side n i ab ps s;
      reach_either_side = λ n i s ab cd. reach_either_side n i ab cd s;
      report_stays = report_stays f laws;
    }

pub joins_agree : JoinsAgree one_link_form
joins_agree = joins_agree_of one_link_form one_link_laws
