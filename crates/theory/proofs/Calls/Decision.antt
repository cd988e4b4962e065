-- Deciding a path, by whatever picks. The argument of the third demand, for any path that a walk can reach: a clash leaves no heap; a
-- heap of a path is a heap of a branch of each rule that applies, and back; a path that is saturated has the heap shown. So our walk of the
-- path, under any order list, is a refutation exactly if no finite heap meets the query and the facts of the path.
use Prim.Native.Nat.{ℕ, zero, suc, ◌+◌, ◌-◌, ◌≤◌, ◌<◌}
use native.Mathlib.Omega.{arith}
use mathlib.Core.Path.{◌≡◌, refl, sym, ap, ◌∙◌, subst, subst₂, fun_ext}
use mathlib.Core.Logic.{◌↔◌, ◌⊎◌, ⊎_elim, inl, inr}
use mathlib.Core.Bool.{Bool, true, false, cond}
use mathlib.Core.List.Memᴰ
use mathlib.Core.List.{List, [], ◌∷◌, ◌++◌, map, Memᴰ}
use mathlib.Core.Option.{none, some}
use lib.ListN.{length, get_or, length-map}
use lib.Dec.{eqb}
use Rattle.logic.specs.Search.{◌and◌, select, first_of}
use Rattle.logic.specs.Query.{Query, term_count}
use Rattle.logic.specs.Heap.{Heap, Reaches, Meets, value}
use Rattle.logic.specs.Facts.{Facts, Line, live, links_of, start_joins, start, link_numbers, terms, first_two, doubled, successors, is_clash, clash_lines, clash}
use Rattle.logic.specs.Rules.{Rule, Move, Fact, alternatives, applies, branch, add, branches, choose}
use Rattle.logic.specs.Walk.{applying, look, Ending, refutation, saturation, after, then_ending, walk_branch, walk_each, end_at, walk, Verdict, our_verdict, order_of}
use Rattle.logic.specs.Steps.{Steps, at_first, one_more, AtMost}
use Rattle.logic.specs.Shown.{shown_link, report, heap_in}
use Rattle.logic.specs.Calls.{CallForm, one_link_form}
use Rattle.logic.specs.JoinPairs.{follow_pairs, times_replaced}
use Rattle.logic.specs.Decision.{MeetsPath, HasHeap, NoHeap, Reachable, Follows, is_held, itself, by_link, onward, Closes, Struck, PathsDecided}
use Rattle.theory.proofs.Basics.Search.{true-false, not_of, find-some, map-mem}
use Rattle.theory.proofs.Basics.Compare.{eqb_self, eq_cases, le_cases}
use Rattle.theory.proofs.Basics.Iterate.{reaches_refl, reaches_trans, reaches_next}
use Rattle.theory.proofs.Query.Tied.{Accepted}
use Rattle.theory.proofs.Paths.Extends.{Extends}
use Rattle.theory.proofs.Paths.Ranged.{InRange, Ranged, live_range, live-rep}
use Rattle.theory.proofs.Paths.Kept.{Sane, add_kept}
use Rattle.theory.proofs.Paths.Applies.{applies_linked, applies_met}
use Rattle.theory.proofs.Paths.Start.{tied_kept}
use Rattle.theory.proofs.Paths.Invariant.{Invariant, start_invariant, branch_invariant, alternatives-live}
use Rattle.theory.proofs.Joins.Pairs.{accounts_branch, accounts_start, start_followed}
use Rattle.theory.proofs.Walks.Order.{HoldsAll, order_full}
use Rattle.theory.proofs.Walks.Derives.{walks_refutes, walks_saturation, seen-applying}
use Rattle.theory.proofs.Walks.OurWalk.{look-some, look_fewer, walk_walks}
use Rattle.theory.proofs.Soundness.Truth.{between, same_refl}
use Rattle.theory.proofs.Soundness.Refuted.{HoldsIn, branch_holds, refutes_sound}
use Rattle.theory.proofs.Soundness.FactsSound.{start_holds}
use Rattle.theory.proofs.Soundness.ClashSound.{clash_sound}
use Rattle.theory.proofs.Completeness.Saturation.{saturated}
use Rattle.theory.proofs.Completeness.ReportBytes.{place}
use Rattle.theory.proofs.Completeness.ShownHeap.{rep_node, link-place, value-place, reach_exactly, shown}
use Rattle.theory.proofs.Calls.CallLaws.{FormLaws}
use Rattle.theory.proofs.Calls.Refusals.{one_link_laws}
use Rattle.theory.proofs.Calls.Verdicts.{Model, completed}
use Rattle.theory.proofs.Basics.Count.{get_d_mem}

-- What is known of every path that is decided: the invariant, and that no number above the terms is replaced.
pub record Known (q : Query) (s : Facts) : Type 0 where
  pub invariant : Invariant q s
  pub beyond : (t : ℕ) → term_count q < t → s.rep t ≡ t

-- Every path that a walk can reach is so

followed-none : (pairs : List (ℕ × ℕ)) (t : ℕ) → times_replaced t pairs ≡ 0 → follow_pairs pairs t ≡ t
unfolding follow_pairs times_replaced select
followed-none [] t h = refl
followed-none (ab ∷ rest) t h = go (eqb ab.1 t) refl (followed-none rest t) h
  where
    go : (b : Bool) → eqb ab.1 t ≡ b → (times_replaced t rest ≡ 0 → follow_pairs rest t ≡ t) →
        length (cond b (ab ∷ select (λ cd. eqb cd.1 t) rest) (select (λ cd. eqb cd.1 t) rest)) ≡ 0 → follow_pairs rest (cond (eqb t ab.1) ab.0 t) ≡ t
    go true e ih k = absurd (omega arith)
    go false e ih k =
        let ne : eqb t ab.1 ≡ false = ⊎_elim (λ p. absurd (true-false (ap (λ (x : ℕ). eqb ab.1 x) p ∙ eqb_self ab.1) e)) (λ p. p.1) (eq_cases t ab.1) in
        rw ne (ih k)

-- a number above the terms is replaced in no pair
none_beyond : (n : ℕ) (s : Facts) (b : Bool) (k t : ℕ) → n < t → k ≡ cond (live n s t and b) 1 0 → k ≡ 0
unfolding ◌and◌
none_beyond n s b k t l h =
    let e : live n s t ≡ false = not_of (λ v. let r = live_range n s t v in omega arith) in
    h ∙ rw e refl

-- doubled successors are read off the links alone
doubled_alike : (n : ℕ) (s s' : Facts) → s'.links ≡ s.links → ((i : ℕ) → (s'.graph i).link ≡ (s.graph i).link) → doubled n s ≡ none → doubled n s' ≡ none
unfolding doubled successors
doubled_alike n s s' e f h =
    subst (λ (k : ℕ). first_of (λ t. first_of (λ i. first_two (select ((s'.graph i).link t) (terms n))) (link_numbers k)) (terms n) ≡ none) (sym e)
    (subst (λ (l : ℕ → ℕ → ℕ → Bool). first_of (λ t. first_of (λ i. first_two (select (l i t) (terms n))) (link_numbers s.links)) (terms n) ≡ none) (fun_ext (λ i. sym (f i))) h)

module _ (q : Query) (ok : Accepted q) where
  abbrev n : ℕ
  n = term_count q

  pub start_known : Known q (start q)
  start_known =
      record {
        invariant = start_invariant q ok;
        beyond = λ t l. start_followed q ok t ∙ followed-none (start_joins q).pairs t (none_beyond n (links_of q) _ _ t l ((accounts_start q ok).once t));
      }

  branch_beyond : (s : Facts) (m : Move) (c : Fact) → Known q s → applies n s m ≡ true → Memᴰ c (alternatives n s.graph m) → (t : ℕ) → n < t → (add n s c).rep t ≡ t
  unfolding add
  branch_beyond s m c k app mem t l =
      let r = k.invariant.sane.ranged in
      let a = accounts_branch n s c (alternatives-live n s r m (applies_linked n s m app) (applies_met n s m app) c mem) r in
      a.followed t ∙ ap (follow_pairs (branch n s c).pairs) (k.beyond t l) ∙ followed-none (branch n s c).pairs t (none_beyond n s _ _ t l (a.once t))

  pub branch-known : (s : Facts) (m : Move) → Known q s → applies n s m ≡ true → (s' : Facts) → Memᴰ s' (branches n s m) → Known q s'
  unfolding branches
  branch-known s m k app s' mem =
      let (c, i, e) = map-mem (add n s) s' (alternatives n s.graph m) mem in
      record {
        invariant = branch_invariant q s m k.invariant app s' mem;
        beyond = λ t l. ap (λ (x : Facts). x.rep t) e ∙ branch_beyond s m c k app i t l;
      }

  pub steps-known : (s : Facts) → Known q s → {k : ℕ} {s' : Facts} → Steps n s k s' → Known q s'
  steps-known s known at_first = known
  steps-known s known (one_more {s' = s'} {s'' = s''} steps step) =
      branch-known s' step.rule_move (steps-known s known steps) step.applicable s'' step.branch

  pub reachable_known : (s : Facts) → Reachable q s → Known q s
  reachable_known s r = steps-known (start q) start_known r.1

  -- The facts of a path, true of a heap: said with and without the bounds of terms

  abbrev Val : Heap → ℕ → ℕ
  Val h = value h q.entries

  pub holds_of : (s : Facts) → Known q s → (h : Heap) → MeetsPath h q s → HoldsIn q h s
  holds_of s k h m =
      record {
        rep_true = λ t l.
            ⊎_elim
            (λ le. between (live_range n s (s.rep t) (r.rep_live t (l, le))).0 l (m.rep_value t l le))
            (λ lt. rw (k.beyond t lt) (same_refl (Val h) t l))
            (le_cases t n);
        graph_true = λ i.
            record {
              link_true = λ a b e. let (p, p') = r.link_live i a b e in between (live_range n s a p).0 (live_range n s b p').0 (m.link_true i a b e);
              reach_true = λ a b e. let (p, p') = r.reach_live i a b e in between (live_range n s a p).0 (live_range n s b p').0 (m.reach_true i a b e);
            };
      }
    where
      r : Ranged n s
      r = k.invariant.sane.ranged

  pub meets_of : (s : Facts) (h : Heap) → Meets h q → HoldsIn q h s → MeetsPath h q s
  meets_of s h meets holds =
      record {
        meets = meets;
        rep_value = λ t l le. (holds.rep_true t l).stands;
        link_true = λ i a b e. ((holds.graph_true i).link_true a b e).stands;
        reach_true = λ i a b e. ((holds.graph_true i).reach_true a b e).stands;
      }

  -- the start has a heap exactly if the query has
  pub start_heap : (h : Heap) → Meets h q → HasHeap q (start q)
  start_heap h meets = (h, meets_of (start q) h meets (start_holds q ok h meets))

  -- A path with a clash has no heap

  pub clash-none : (s : Facts) → Known q s → (l : Line) → clash q s ≡ some l → NoHeap q s
  unfolding clash
  clash-none s k l e (h, m) =
      clash_sound q ok h m.meets s (holds_of s k h m) l (find-some (is_clash q s) (clash_lines q) l e).1

  -- Where a rule applies, a heap of the path is a heap of a branch, and a heap of a branch is one of the path

  pub heap_branch : (s : Facts) → Known q s → (m : Move) → applies n s m ≡ true → HasHeap q s → (s' : Facts) × Memᴰ s' (branches n s m) × HasHeap q s'
  heap_branch s k m app (h, mp) =
      let (s', i, holds) = branch_holds q h s (holds_of s k h mp) m app in
      (s', i, (h, meets_of s' h mp.meets holds))

  -- of a path that extends another
  module _ (s s' : Facts) (k : Known q s) (k' : Known q s') (e : Extends s s') (h : Heap) (m : MeetsPath h q s') where
    -- a term that is not replaced has the value of what it becomes
    live-value : (a : ℕ) → live n s a ≡ true → Val h (e.renames a) ≡ Val h a
    live-value a l =
        let r = live_range n s a l in
        ap (Val h) (ap e.renames (sym (live-rep n s a l)) ∙ sym (e.rep_renamed a)) ∙ m.rep_value a r.0 r.1

    extended_back : MeetsPath h q s
    extended_back =
        record {
          meets = m.meets;
          rep_value = λ t l le. sym (live-value (s.rep t) (k.invariant.sane.ranged.rep_live t (l, le))) ∙ ap (Val h) (sym (e.rep_renamed t)) ∙ m.rep_value t l le;
          link_true = λ i a b held.
              let (p, p') = k.invariant.sane.ranged.link_live i a b held in
              ap (h.link i) (sym (live-value a p)) ∙ m.link_true i (e.renames a) (e.renames b) (e.link_kept i a b held) ∙ live-value b p';
          reach_true = λ i a b held.
              let (p, p') = k.invariant.sane.ranged.reach_live i a b held in
              subst₂ (Reaches (h.link i)) (live-value a p) (live-value b p') (m.reach_true i (e.renames a) (e.renames b) (e.reach_kept i a b held));
        }

  pub branch_heap : (s : Facts) → Known q s → (m : Move) → applies n s m ≡ true → (s' : Facts) → Memᴰ s' (branches n s m) → HasHeap q s' → HasHeap q s
  unfolding branches
  branch_heap s k m app s' mem (h, mp) =
      let (c, i, e) = map-mem (add n s) s' (alternatives n s.graph m) mem in
      let l = alternatives-live n s k.invariant.sane.ranged m (applies_linked n s m app) (applies_met n s m app) c i in
      let x = (add_kept n s c l k.invariant.sane).extends in
      (h, extended_back s s' k (branch-known s m k app s' mem) (subst (Extends s) (sym e) x) h mp)

  -- A saturated path has the heap shown

  pub saturated_heap : (s : Facts) → Known q s → (order : List Rule) → HoldsAll order → clash q s ≡ none → choose n order s ≡ none → HasHeap q s
  unfolding shown_link
  saturated_heap s k order full free idle =
      let i = k.invariant in
      let r = i.sane.ranged in
      let m : Model q s = record { invariant = i; no_clash = free; no_rule = λ j l. saturated n s order full i.sane idle j (subst (λ (c : ℕ). (1 ≤ j) × (j ≤ c)) (sym i.tied.same_links) l) } in
      let comp = completed q ok s m in
      let linked : (j : ℕ) → InRange s.links j → InRange q.links j = λ j l. subst (λ (c : ℕ). InRange c j) i.tied.same_links l in
      let h : Heap = heap_in q.links (report q s ++ []) in
      let at : (t : ℕ) → 1 ≤ t → t ≤ n → Val h t ≡ place q s (s.rep t) = λ t l le. value-place q s ok i.tied comp [] t (l, le) in
      let stay : (t : ℕ) → live n s t ≡ true → Val h t ≡ place q s t = λ t l. let g = live_range n s t l in at t g.0 g.1 ∙ ap (place q s) (live-rep n s t l) in (
        h,
        record {
          meets = (shown q s ok i.tied comp free []).meets;
          rep_value = λ t l le. stay (s.rep t) (r.rep_live t (l, le)) ∙ sym (at t l le);
          link_true = λ j a b e.
              let (p, p') = r.link_live j a b e in
              let g = live_range n s a p in
              let l = linked j (r.link_linked j a b e) in
              ap (h.link j) (at a g.0 g.1)
              ∙ link-place q s ok i.tied comp [] j l (s.rep a) (rep_node q s ok i.tied comp a g)
              ∙ ap (place q s) ((comp j l).completed_known (s.rep a) b (subst (λ (x : ℕ). (s.graph j).link x b ≡ true) (sym (live-rep n s a p)) e))
              ∙ sym (stay b p');
          reach_true = λ j a b e.
              let (p, p') = r.reach_live j a b e in
              (reach_exactly q s ok i.tied comp [] j (linked j (r.reach_linked j a b e)) a b (live_range n s a p) (live_range n s b p')).0
              (subst₂ (λ (x y : ℕ). (s.graph j).reach x y ≡ true) (sym (live-rep n s a p)) (sym (live-rep n s b p')) e);
        },
      )

  -- So a walk decides: its verdict is that of the path, under whatever order list

  module _ (order : List Rule) (full : HoldsAll order) where
    pub walk-saturation : (k : ℕ) (s : Facts) → Known q s → AtMost n s k → (t : Facts) → walk q order k s ≡ saturation t → HasHeap q s
    walk-saturation k s known most t e =
        let ((known', back), free, idle) =
        walks_saturation q (λ s'. Known q s' × (HasHeap q s' → HasHeap q s))
        (λ s₁ s₂ m p free app mem. (branch-known s₁ m p.0 app s₂ mem, λ h. p.1 (branch_heap s₁ p.0 m app s₂ mem h)))
        order (walk_walks q order k s most) t (known, λ h. h) e in
        back (saturated_heap t known' order full free idle)

    pub walk-refutation : (k : ℕ) (s : Facts) → Known q s → AtMost n s k → (ls : List Line) → walk q order k s ≡ refutation ls → NoHeap q s
    walk-refutation k s known most ls e (h, m) =
        refutes_sound q ok h m.meets (walks_refutes q order (walk_walks q order k s most) ls e) (holds_of s known h m)

    -- a path without a heap is refuted, and one with a heap is not
    pub no_heap_refuted : (k : ℕ) (s : Facts) → Known q s → AtMost n s k → NoHeap q s → (ls : List Line) × (walk q order k s ≡ refutation ls)
    no_heap_refuted k s known most free = go (walk q order k s) refl
      where
        go : (e : Ending) → walk q order k s ≡ e → (ls : List Line) × (walk q order k s ≡ refutation ls)
        go (refutation ls) e = (ls, e)
        go (saturation t) e = absurd (free (walk-saturation k s known most t e))

  -- The branches one after the other

  mem_get_d : {A : Type 0} (xs : List A) (d x : A) → Memᴰ x xs → (i : ℕ) × (i < length xs) × (get_or xs i d ≡ x)
  mem_get_d [] d x m = absurd (Memᴰ.not-nil m)
  mem_get_d (y ∷ ys) d x m =
      ⊎_elim (λ e. (0, omega arith, sym e)) (λ k. let (i, l, e) = mem_get_d ys d x k in (suc i, omega arith, e)) (Memᴰ.cases_cons m)

  pub struck_next : (s : Facts) (m : Move) (i : ℕ) → Struck q s m i → NoHeap q (get_or (branches n s m) i s) → Struck q s m (i + 1)
  struck_next s m i st free j l = ⊎_elim (λ lt. st j lt) (λ le. let e : i ≡ j = omega arith in subst (λ (x : ℕ). NoHeap q (get_or (branches n s m) x s)) e free) (lt-or j i)
    where
      lt-or : (a b : ℕ) → (a < b) ⊎ (b ≤ a)
      lt-or a b = ⊎_elim (λ l. inr l) (λ l. inl l) (le_cases b a)

  -- all branches struck: no heap
  pub struck_all : (s : Facts) → Known q s → (m : Move) → applies n s m ≡ true → (i : ℕ) → Struck q s m i → length (branches n s m) ≤ i → NoHeap q s
  struck_all s k m app i st past has =
      let (s', mem, has') = heap_branch s k m app has in
      let (j, l, e) = mem_get_d (branches n s m) s s' mem in
      st j (omega arith) (subst (HasHeap q) (sym e) has')

  -- one with a heap
  pub open_branch : (s : Facts) → Known q s → (m : Move) → applies n s m ≡ true → (i : ℕ) → i < length (branches n s m) → HasHeap q (get_or (branches n s m) i s) → HasHeap q s
  open_branch s k m app i l has = branch_heap s k m app (get_or (branches n s m) i s) (get_d_mem (branches n s m) i s l) has

  -- all but the last struck: the last has a heap where the path has one
  pub last_open : (s : Facts) → Known q s → (m : Move) → applies n s m ≡ true → (i : ℕ) → Struck q s m i → length (branches n s m) ≤ i + 1 → HasHeap q s → HasHeap q (get_or (branches n s m) i s)
  last_open s k m app i st last has =
      let (s', mem, has') = heap_branch s k m app has in
      let (j, l, e) = mem_get_d (branches n s m) s s' mem in
      ⊎_elim
      (λ lt. absurd (st j (omega arith) (subst (HasHeap q) (sym e) has')))
      (λ le. let f : j ≡ i = omega arith in subst (λ (x : ℕ). HasHeap q (get_or (branches n s m) x s)) f (subst (HasHeap q) (sym e) has'))
      (le_cases (j + 1) i)

  pub branch_at : (s : Facts) → Known q s → (m : Move) → applies n s m ≡ true → (i : ℕ) → i < length (branches n s m) → Known q (get_or (branches n s m) i s)
  branch_at s k m app i l = branch-known s m k app (get_or (branches n s m) i s) (get_d_mem (branches n s m) i s l)

  -- our walk goes into the first branch that is not refuted
  each_at : (w : Facts → Ending) (s : Facts) (cs : List Fact) (d t : Facts) (i : ℕ) → i < length cs →
      ((j : ℕ) → j < i → (ls : List Line) × (w (get_or (map (add n s) cs) j d) ≡ refutation ls)) → w (get_or (map (add n s) cs) i d) ≡ saturation t →
      walk_each n w s cs ≡ saturation t
  unfolding walk_each walk_branch then_ending after add
  each_at w s [] d t i l before here = absurd (omega arith)
  each_at w s (c ∷ cs) d t zero l before here = rw here refl
  each_at w s (c ∷ cs) d t (suc i) l before here =
      let (ls, e) = before 0 (omega arith) in
      let rest = each_at w s cs d t i (omega arith) (λ j h. before (suc j) (omega arith)) here in
      rw (e, rest) refl

  pub walk_first : (order : List Rule) → HoldsAll order → (k : ℕ) (s : Facts) → Known q s → AtMost n s k → (m : Move) → look q order s ≡ applying m →
      (i : ℕ) → i < length (branches n s m) → Struck q s m i → (t : Facts) → walk q order (k - 1) (get_or (branches n s m) i s) ≡ saturation t →
      walk q order k s ≡ saturation t
  unfolding walk end_at after branches
  walk_first order full zero s known most m seen i l st t e = absurd (let p = look-some q order 0 s m most seen in omega arith)
  walk_first order full (suc k) s known most m seen i l st t e =
      let cs : List Fact = alternatives n s.graph m in
      let app = (seen-applying q order s seen).1 in
      let less : suc k - 1 ≡ k = omega arith in
      let long : length (map (add n s) cs) ≡ length cs = length-map cs (add n s) in
      let refuted : (j : ℕ) → j < i → (ls : List Line) × (walk q order k (get_or (map (add n s) cs) j s) ≡ refutation ls) = λ j h.
      let in_row : j < length (map (add n s) cs) = omega arith in
      let mem = get_d_mem (map (add n s) cs) j s in_row in
      let (c, ci, ce) = map-mem (add n s) (get_or (map (add n s) cs) j s) cs mem in
      let fewer = subst (AtMost n (add n s c)) less (look_fewer q order (suc k) s m most seen c ci) in
      no_heap_refuted order full k (get_or (map (add n s) cs) j s) (branch-known s m known app _ mem) (subst (λ (x : Facts). AtMost n x k) (sym ce) fewer) (st j h) in
      let each = each_at (walk q order k) s cs s t i (omega arith) refuted (subst (λ (x : ℕ). walk q order x (get_or (map (add n s) cs) i s) ≡ saturation t) less e) in
      rw (seen, each) refl

  -- Closing a path under REFLEX, TRANS1 and TRANS2 changes no heap

  module _ (s s' : Facts) (known : Known q s) (cl : Closes n s s') where
    follows_live : (i : ℕ) {a b : ℕ} → Follows (live n s) (s.graph i).link (s.graph i).reach a b → (live n s a ≡ true) × (live n s b ≡ true)
    follows_live i (is_held e) = known.invariant.sane.ranged.reach_live i _ _ e
    follows_live i (itself e) = (e, e)
    follows_live i (by_link e) = known.invariant.sane.ranged.link_live i _ _ e
    follows_live i (onward f g) = ((follows_live i f).0, (follows_live i g).1)

    follows_true : (h : Heap) → MeetsPath h q s → (i : ℕ) {a b : ℕ} → Follows (live n s) (s.graph i).link (s.graph i).reach a b → Reaches (h.link i) (Val h a) (Val h b)
    follows_true h m i (is_held e) = m.reach_true i _ _ e
    follows_true h m i (itself {a = a} e) = reaches_refl (h.link i) (Val h a)
    follows_true h m i (by_link {a = a} {b = b} e) = subst (Reaches (h.link i) (Val h a)) (m.link_true i a b e) (reaches_next (h.link i) (Val h a))
    follows_true h m i (onward {a = a} {b = b} {c = c} f g) = reaches_trans (h.link i) (Val h a) (Val h b) (Val h c) (follows_true h m i f) (follows_true h m i g)

    same_live : (t : ℕ) → live n s t ≡ true → live n s' t ≡ true
    unfolding live
    same_live t l = rw cl.same_rep l

    extends : Extends s s'
    extends =
        record {
          renames = λ t. t;
          rep_renamed = λ t. ap (λ (r : ℕ → ℕ). r t) cl.same_rep;
          same_links = cl.same_links;
          link_kept = λ i a b e. ap (λ (r : ℕ → ℕ → Bool). r a b) (cl.same_link i) ∙ e;
          reach_kept = cl.reach_kept;
        }

    held_link : (i a b : ℕ) → (s'.graph i).link a b ≡ true → (s.graph i).link a b ≡ true
    held_link i a b e = ap (λ (f : ℕ → ℕ → Bool). f a b) (sym (cl.same_link i)) ∙ e

    sane : Sane n s'
    sane =
        let r = known.invariant.sane.ranged in
        record {
          ranged =
              record {
                rep_live = λ t i. subst (λ (f : ℕ → ℕ). live n s' (f t) ≡ true) (sym cl.same_rep) (same_live (s.rep t) (r.rep_live t i));
                link_live = λ i a b e. let (p, p') = r.link_live i a b (held_link i a b e) in (same_live a p, same_live b p');
                reach_live = λ i a b e. let (p, p') = follows_live i (cl.reach_follows i a b e) in (same_live a p, same_live b p');
                link_linked = λ i a b e. subst (λ (k : ℕ). InRange k i) (sym cl.same_links) (r.link_linked i a b (held_link i a b e));
                reach_linked = λ i a b e. subst (λ (k : ℕ). InRange k i) (sym cl.same_links) (cl.reach_linked i a b e);
              };
          single = doubled_alike n s s' cl.same_links cl.same_link known.invariant.sane.single;
        }

    pub closed_known : Known q s'
    closed_known =
        record {
          invariant = record { sane = sane; tied = tied_kept q s s' known.invariant.tied (record { sane = sane; extends = extends }) };
          beyond = λ t l. ap (λ (r : ℕ → ℕ). r t) cl.same_rep ∙ known.beyond t l;
        }

    pub closed_heap : HasHeap q s → HasHeap q s'
    closed_heap (h, m) = (
      h,
      record {
        meets = m.meets;
        rep_value = λ t l le. subst (λ (r : ℕ → ℕ). Val h (r t) ≡ Val h t) (sym cl.same_rep) (m.rep_value t l le);
        link_true = λ i a b e. m.link_true i a b (held_link i a b e);
        reach_true = λ i a b e. follows_true h m i (cl.reach_follows i a b e);
      },
    )

    pub heap_closed : HasHeap q s' → HasHeap q s
    heap_closed (h, m) = (h, extended_back s s' known closed_known extends h m)

-- The verdict of a walk of a path
verdicts : (q : Query) → Accepted q → (order : List Rule) → HoldsAll order → (k : ℕ) (s : Facts) → Known q s → AtMost (term_count q) s k →
    ((our_verdict (walk q order k s) ≡ Verdict.satisfiable) ↔ HasHeap q s) × ((our_verdict (walk q order k s) ≡ Verdict.refuted) ↔ NoHeap q s)
unfolding our_verdict
verdicts q ok order full k s known most = go (walk q order k s) refl
  where
    apart : Verdict.satisfiable ≡ Verdict.refuted → ⊥
    apart e = let z : ◌≡◌ {A = ℕ} 0 1 = cc in omega arith

    go : (e : Ending) → walk q order k s ≡ e → ((our_verdict e ≡ Verdict.satisfiable) ↔ HasHeap q s) × ((our_verdict e ≡ Verdict.refuted) ↔ NoHeap q s)
    go (refutation ls) e =
        let free = walk-refutation q ok order full k s known most ls e in
        ((λ f. absurd (apart (sym f)), λ h. absurd (free h)), (λ f. free, λ f. refl))
    go (saturation t) e =
        let has = walk-saturation q ok order full k s known most t e in
        ((λ f. has, λ h. refl), (λ f. absurd (apart f), λ f. absurd (f has)))

pub paths_decided_of : (f : CallForm) → FormLaws f → PathsDecided f
paths_decided_of f laws =
    record {
      satisfiable_exactly = λ query order s k a o r most. let ok = laws.accepted_query query a in
          (verdicts (f.decode query) ok (order_of order) (order_full order o) k s (reachable_known (f.decode query) ok s r) most).0;
      refuted_exactly = λ query order s k a o r most. let ok = laws.accepted_query query a in
          (verdicts (f.decode query) ok (order_of order) (order_full order o) k s (reachable_known (f.decode query) ok s r) most).1;
    }

pub paths_decided : PathsDecided one_link_form
paths_decided = paths_decided_of one_link_form one_link_laws
