-- Orders: what is placed one by one keeps every pair and is the smallest; where nothing can be placed there is a ring.
use Prim.Native.Nat.{ℕ, zero, suc, ◌+◌, ◌-◌, ◌≤◌, ◌<◌}
use native.Mathlib.Omega.{arith}
use native.Mathlib.Nat.{eq-or-lt_of_le}
use mathlib.Core.Path.{◌≡◌, refl, sym, ap, ◌∙◌, subst}
use mathlib.Core.Logic.{◌⊎◌, ⊎_elim, inl, inr}
use mathlib.Core.Bool.{true, false, not, false≢true}
use mathlib.Core.List.{List, [], ◌∷◌, ◌++◌, append_assoc, append-nil, Memᴰ}
use mathlib.Core.Option.{Option, none, some, Option-elim}
use lib.ListN.{length, length-append}
use lib.Dec.{eqb, ltb}
use borrow.Author.Tests.{not-false}
use Rattle.logic.specs.Search.{◌and◌, any, all, find}
use Rattle.logic.specs.Query.{is_order}
use Rattle.theory.proofs.Basics.Search.{bool_cases, true-false, none-some, not-true, not_intro, not_of, and_left, and_right, and_intro, or_cases}
use Rattle.theory.proofs.Basics.Search.{or_left, or_right, all_true, all_intro, all-false, find-some, find_none, find_lowest, neither}
use Rattle.theory.proofs.Basics.Compare.{eqb-true, eqb_intro, eq_cases, le_cases, ltb_intro}
use Rattle.theory.proofs.Graph.Pigeonhole.{pigeonhole}
use Rattle.ordering.specs.Sheet.{Pair, is_rule, paired}
use Rattle.ordering.specs.Kept.{place_of, keeps, smaller, each_once, SmallestOrder}
use Rattle.ordering.specs.Finding.{free, ready, next_rule, grow, leads}
use Rattle.ordering.proofs.Lists.{has, has-mem, mem-has, once_head, once_tail, once_intro, fewer, full_among, rules}
use Rattle.ordering.proofs.Lists.{is_rule_lem, rule_mem, mem_rule, rules_once, rules_eight, order_once, order_rules}
use Rattle.ordering.proofs.Places.{place_has, has_place, place_left, place_right, place_start, kept, smaller_prefix, smaller-nil, smaller_from_nil, smaller_greater}
use Rattle.ordering.proofs.Rings.{Numbered, pair-paired, leads-cons, leads-none}

-- one number more

has_more : (r s : ℕ) (u : List ℕ) → has (u ++ (s ∷ [])) r ≡ true → (has u r ≡ true) ⊎ (r ≡ s)
has_more r s u h =
    ⊎_elim (λ m. inl (mem-has r m)) (λ m. inr (⊎_elim (λ e. e) (λ n. absurd (mathlib.Core.List.Memᴰ.not-nil n)) (mathlib.Core.List.Memᴰ.cases_cons m))) (mathlib.Core.List.Memᴰ.append_cases u (has-mem r (u ++ (s ∷ [])) h))

once_more : (s : ℕ) (u : List ℕ) → has u s ≡ false → each_once u ≡ true → each_once (u ++ (s ∷ [])) ≡ true
unfolding each_once any ◌and◌
once_more s [] h o = refl
once_more s (x ∷ u) h o =
    once_intro x (u ++ (s ∷ []))
    (not_of (λ t. ⊎_elim (λ a. true-false a (once_head x u o)) (λ e. true-false (mem-has {xs = x ∷ u} s (mathlib.Core.List.Memᴰ.head (sym e))) h) (has_more x s u t)))
    (once_more s u (not_of (λ t. true-false (mem-has {xs = x ∷ u} s (mathlib.Core.List.Memᴰ.tail (has-mem s u t))) h)) (once_tail x u o))

-- a number that stands once stands nowhere before it does
once-before : (y : ℕ) (u v : List ℕ) → each_once (u ++ y ∷ v) ≡ true → has u y ≡ false
unfolding any
once-before y [] v o = refl
once-before y (x ∷ u) v o =
    not_of (λ t. ⊎_elim (λ e. true-false (mem-has x (subst (λ (z : ℕ). Memᴰ z (u ++ y ∷ v)) e (mathlib.Core.List.Memᴰ.append_right u (mathlib.Core.List.Memᴰ.head refl))))
    (once_head x (u ++ y ∷ v) o)) (λ m. true-false (mem-has y m) (once-before y u v (once_tail x (u ++ y ∷ v) o))) (mathlib.Core.List.Memᴰ.cases_cons (has-mem y (x ∷ u) t)))

module _ (ps : List Pair) (rules_of : Numbered ps) where
  -- what may stand next
  abbrev Ready : List ℕ → ℕ → Type 0
  Ready placed r = (has placed r ≡ false) × ((p : Pair) → Memᴰ p ps → p.later ≡ r → has placed p.earlier ≡ true)

  ready_is : (placed : List ℕ) (r : ℕ) → ready ps placed r ≡ true → Ready placed r
  unfolding ready free
  ready_is placed r h = (not-true (and_left (not (has placed r)) (all (free placed r) ps) h), earlier)
    where
      earlier : (p : Pair) → Memᴰ p ps → p.later ≡ r → has placed p.earlier ≡ true
      earlier p m e =
          ⊎_elim (λ n. absurd (true-false (eqb_intro e) (not-true n))) (λ t. t)
          (or_cases (not (eqb p.later r)) (has placed p.earlier) (all_true (free placed r) p (and_right (not (has placed r)) (all (free placed r) ps) h) m))

  is_ready : (placed : List ℕ) (r : ℕ) → Ready placed r → ready ps placed r ≡ true
  unfolding ready free
  is_ready placed r (h, f) =
      and_intro (not_intro h)
      (all_intro (free placed r) ps (λ p m. ⊎_elim (λ e. or_right (not (eqb p.later r)) (f p m e)) (λ d. or_left (has placed p.earlier) (not_intro d.1)) (eq_cases p.later r)))

  -- the numbers placed so far
  record Grown (placed : List ℕ) : Type 0 where
    once : each_once placed ≡ true
    ruled : (r : ℕ) → Memᴰ r placed → is_rule r ≡ true
    kept_so : (p : Pair) → Memᴰ p ps → has placed p.later ≡ true → place_of placed p.earlier < place_of placed p.later

  none-grown : Grown []
  unfolding each_once any
  none-grown = record { once = refl; ruled = λ r m. absurd (mathlib.Core.List.Memᴰ.not-nil m); kept_so = λ p m h. absurd (false≢true h) }

  grown-more : (placed : List ℕ) (r : ℕ) → Grown placed → Ready placed r → is_rule r ≡ true → Grown (placed ++ (r ∷ []))
  grown-more placed r g (new, early) i =
      record {
        once = once_more r placed new g.once;
        ruled = λ s m. ⊎_elim (λ a. g.ruled s a)
            (λ b. ⊎_elim (λ e. subst (λ (t : ℕ). is_rule t ≡ true) (sym e) i) (λ n. absurd (mathlib.Core.List.Memᴰ.not-nil n)) (mathlib.Core.List.Memᴰ.cases_cons b))
            (mathlib.Core.List.Memᴰ.append_cases placed m);
        kept_so = λ p m h. ⊎_elim (λ a. before p m a) (λ e. now_placed p m e) (has_more p.later r placed h);
      }
    where
      more : List ℕ
      more = placed ++ (r ∷ [])

      before : (p : Pair) → Memᴰ p ps → has placed p.later ≡ true → place_of more p.earlier < place_of more p.later
      before p m a =
          let less = g.kept_so p m a in
          let early_there : has placed p.earlier ≡ true = has_place p.earlier placed (omega (arith, place_has p.later placed a)) in
          omega (arith, place_left p.earlier placed (r ∷ []) early_there, place_left p.later placed (r ∷ []) a)

      now_placed : (p : Pair) → Memᴰ p ps → p.later ≡ r → place_of more p.earlier < place_of more p.later
      now_placed p m e =
          let there = early p m e in
          let at_end : place_of more p.later ≡ length placed = ap (place_of more) e ∙ place_right r placed (r ∷ []) new ∙ omega (arith, place_start r []) in
          omega (arith, place_left p.earlier placed (r ∷ []) there, place_has p.earlier placed there)

  -- what is next, and what is left when there is nothing
  next-some : (placed : List ℕ) (r : ℕ) → next_rule ps placed ≡ some r → Ready placed r × (is_rule r ≡ true) × ((y : ℕ) → Ready placed y → is_rule y ≡ true → r ≤ y)
  unfolding next_rule
  next-some placed r e =
      let f = find-some (ready ps placed) rules r e in (
        ready_is placed r f.1,
        mem_rule r f.0,
        λ y d i. ⊎_elim (λ l. l)
            (λ l. absurd (true-false (is_ready placed y d) (find_lowest (ready ps placed) 8 1 r e y (is_rule_lem y i).0 l))) (le_cases r y),
      )

  next_is : (placed : List ℕ) → next_rule ps placed ≡ none → find (ready ps placed) rules ≡ none
  unfolding next_rule
  next_is placed e = e

  -- k numbers more
  record Ends (k : ℕ) (placed l : List ℕ) : Type 0 where
    grown : Grown l
    size : length l ≡ length placed + k
    rest : List ℕ
    begins : l ≡ placed ++ rest

  grow_ends : (k : ℕ) (placed l : List ℕ) → Grown placed → grow ps k placed ≡ some l → Ends k placed l
  unfolding grow Option-elim
  grow_ends zero placed l g h = let e : placed ≡ l = cc in
      record { grown = subst (λ (x : List ℕ). Grown x) e g; size = omega (arith, ap length e); rest = []; begins = sym e ∙ sym (append-nil placed) }
  grow_ends (suc k) placed l g h = go (next_rule ps placed) refl (λ r a b. grow_ends k (placed ++ (r ∷ [])) l a b) h
    where
      go : (o : Option ℕ) → next_rule ps placed ≡ o →
          ((r : ℕ) → Grown (placed ++ (r ∷ [])) → grow ps k (placed ++ (r ∷ [])) ≡ some l → Ends k (placed ++ (r ∷ [])) l) →
          Option-elim o none (λ r. grow ps k (placed ++ (r ∷ []))) ≡ some l → Ends (suc k) placed l
      go none e ih h = absurd (none-some h)
      go (some r) e ih h =
          let n = next-some placed r e in
          let t = ih r (grown-more placed r g n.0 n.1) h in
          record {
            grown = t.grown;
            size = omega (arith, t.size, length-append placed (r ∷ []));
            rest = r ∷ t.rest;
            begins = t.begins ∙ append_assoc placed (r ∷ []) t.rest;
          }

  -- eight numbers are an order list that keeps every pair
  grown_order : (l : List ℕ) → Grown l → length l ≡ 8 → is_order l ≡ true
  unfolding is_order
  grown_order l g e =
      and_intro (eqb_intro e)
      (all_intro (λ r. any (eqb r) l) rules (λ r m. mem-has r (full_among l rules g.once (λ z n. rule_mem z (g.ruled z n)) (omega (arith, rules_eight)) r m)))

  grown-keeps : (l : List ℕ) → Grown l → length l ≡ 8 → keeps ps l ≡ true
  unfolding keeps
  grown-keeps l g e =
      all_intro (λ p. ltb (place_of l p.earlier) (place_of l p.later)) ps
      (λ p m. ltb_intro (g.kept_so p m
      (mem-has p.later (full_among l rules g.once (λ z n. rule_mem z (g.ruled z n)) (omega (arith, rules_eight)) p.later
      (rule_mem p.later (rules_of.later_rule p m))))))

  -- the number after those placed, in an order list that keeps every pair, may stand next
  next_ready : (o : List ℕ) → is_order o ≡ true → keeps ps o ≡ true → (placed : List ℕ) (y : ℕ) (rest : List ℕ) → o ≡ placed ++ y ∷ rest → Ready placed y
  next_ready o i k placed y rest e = (new, early)
    where
      new : has placed y ≡ false
      new = once-before y placed rest (subst (λ (l : List ℕ). each_once l ≡ true) e (order_once o i))

      early : (p : Pair) → Memᴰ p ps → p.later ≡ y → has placed p.earlier ≡ true
      early p m q =
          let less : place_of (placed ++ y ∷ rest) p.earlier < place_of (placed ++ y ∷ rest) p.later = subst (λ (l : List ℕ). place_of l p.earlier < place_of l p.later) e (kept ps o p k m) in
          let here : place_of (placed ++ y ∷ rest) p.later ≡ length placed = ap (place_of (placed ++ y ∷ rest)) q ∙ place_right y placed (y ∷ rest) new ∙ omega (arith, place_start y rest) in
          ⊎_elim (λ t. t) (λ f. absurd (omega (arith, place_right p.earlier placed (y ∷ rest) f))) (bool_cases (has placed p.earlier))

  grow-smallest : (k : ℕ) (placed l : List ℕ) → Grown placed → grow ps k placed ≡ some l → (o rest : List ℕ) → is_order o ≡ true → keeps ps o ≡ true → o ≡ placed ++ rest → smaller o l ≡ false
  unfolding grow Option-elim
  grow-smallest zero placed l g h o rest i kp e =
      let same : placed ≡ l = cc in
      ap (λ (x : List ℕ). smaller x l) e ∙ ap (smaller (placed ++ rest)) (sym same ∙ sym (append-nil placed)) ∙ smaller_prefix placed rest [] ∙ smaller-nil rest
  grow-smallest (suc k) placed l g h o [] i kp e =
      let t = grow_ends (suc k) placed l g h in
      ap (λ (x : List ℕ). smaller x l) e ∙ ap (smaller (placed ++ [])) t.begins ∙ smaller_prefix placed [] t.rest ∙ smaller_from_nil t.rest
  grow-smallest (suc k) placed l g h o (y ∷ rest) i kp e = go (next_rule ps placed) refl (λ r a b c. grow-smallest k (placed ++ (r ∷ [])) l a b o rest i kp c) h
    where
      go : (n : Option ℕ) → next_rule ps placed ≡ n →
          ((r : ℕ) → Grown (placed ++ (r ∷ [])) → grow ps k (placed ++ (r ∷ [])) ≡ some l → o ≡ (placed ++ (r ∷ [])) ++ rest → smaller o l ≡ false) →
          Option-elim n none (λ r. grow ps k (placed ++ (r ∷ []))) ≡ some l → smaller o l ≡ false
      go none q ih h = absurd (none-some h)
      go (some r) q ih h =
          let n = next-some placed r q in
          let more : Grown (placed ++ (r ∷ [])) = grown-more placed r g n.0 n.1 in
          let t = grow_ends k (placed ++ (r ∷ [])) l more h in
          let in_order : Memᴰ y o = subst (λ (x : List ℕ). Memᴰ y x) (sym e) (mathlib.Core.List.Memᴰ.append_right placed (mathlib.Core.List.Memᴰ.head refl)) in
          ⊎_elim (λ s. ih r more h (e ∙ ap (λ (z : ℕ). placed ++ z ∷ rest) (sym s) ∙ sym (append_assoc placed (r ∷ []) rest)))
          (λ s. ap (λ (x : List ℕ). smaller x l) e ∙ ap (smaller (placed ++ y ∷ rest)) (t.begins ∙ append_assoc placed (r ∷ []) t.rest)
          ∙ smaller_prefix placed (y ∷ rest) (r ∷ t.rest) ∙ smaller_greater y r rest t.rest s)
          (eq-or-lt_of_le (n.2 y (next_ready o i kp placed y rest e) (order_rules o i y in_order)))

  -- "the smallest order list that keeps every pair"
  pub grown-smallest : (l : List ℕ) → grow ps 8 [] ≡ some l → SmallestOrder ps l
  grown-smallest l h =
      let t = grow_ends 8 [] l none-grown h in
      let eight : length l ≡ 8 = t.size in
      record {
        is_order_lem = grown_order l t.grown eight;
        keeps_all = grown-keeps l t.grown eight;
        smallest = λ o i k. grow-smallest 8 [] l none-grown h o o i k refl;
      }

  -- Where nothing can stand next

  pub stuck : (k : ℕ) (placed : List ℕ) → grow ps k placed ≡ none → (at : List ℕ) × (next_rule ps at ≡ none) × (length at < length placed + k)
  unfolding grow Option-elim
  stuck zero placed h = absurd (none-some (sym h))
  stuck (suc k) placed h = go (next_rule ps placed) refl (λ r a. stuck k (placed ++ (r ∷ [])) a) h
    where
      go : (o : Option ℕ) → next_rule ps placed ≡ o →
          ((r : ℕ) → grow ps k (placed ++ (r ∷ [])) ≡ none → (at : List ℕ) × (next_rule ps at ≡ none) × (length at < length (placed ++ (r ∷ [])) + k)) →
          Path (Option (List ℕ)) (Option-elim o none (λ r. grow ps k (placed ++ (r ∷ [])))) none → (at : List ℕ) × (next_rule ps at ≡ none)
          × (length at < length placed + suc k)
      go none e ih h = (placed, e, omega arith)
      go (some r) e ih h = let t = ih r h in (t.0, t.1, omega (arith, t.2, length-append placed (r ∷ [])))

  module _ (placed : List ℕ) (end : next_rule ps placed ≡ none) (few : length placed < 8) where
    abbrev Left : Type 0
    Left = (x : ℕ) × (is_rule x ≡ true) × (has placed x ≡ false)

    one_left : Left
    one_left = ⊎_elim (λ t. absurd (all_placed t)) (λ f. let r = all-false (has placed) rules f in (r.0, mem_rule r.0 r.1, r.2)) (bool_cases (all (has placed) rules))
      where
        all_placed : all (has placed) rules ≡ true → ⊥
        all_placed t = omega (arith, rules_eight, fewer rules placed rules_once (λ z m. has-mem z placed (all_true (has placed) z t m)))

    abbrev Earlier : ℕ → Type 0
    Earlier x = (a : ℕ) × (is_rule a ≡ true) × (has placed a ≡ false) × (paired ps a x ≡ true)

    earlier_left : (x : ℕ) → is_rule x ≡ true → has placed x ≡ false → Earlier x
    unfolding ready free
    earlier_left x i h = ⊎_elim (λ t. absurd (true-false (and_intro (not_intro h) t) (find_none (ready ps placed) x end' (rule_mem x i))))
        (λ f. go (all-false (free placed x) ps f)) (bool_cases (all (free placed x) ps))
      where
        end' : find (ready ps placed) rules ≡ none
        end' = next_is placed end

        go : (p : Pair) × Memᴰ p ps × (free placed x p ≡ false) → Earlier x
        go (p, m, f) =
            let t = neither (not (eqb p.later x)) (has placed p.earlier) f in
            let e : p.later ≡ x = eqb-true p.later x (not-false (eqb p.later x) t.0) in
            (p.earlier, rules_of.earlier_rule p m, t.1, subst (λ (c : ℕ). paired ps p.earlier c ≡ true) e (pair-paired ps p m))

    back : ℕ → Left
    back zero = one_left
    back (suc i) = let l = back i in let r = earlier_left l.0 l.1 l.2 in (r.0, r.1, r.2)

    back_pair : (i : ℕ) → paired ps (back (suc i)).0 (back i).0 ≡ true
    unfolding back
    back_pair i = (earlier_left (back i).0 (back i).1 (back i).2).3

    back_leads : (k i j : ℕ) → j ≡ i + k → leads ps k (back j).0 (back i).0 ≡ true
    back_leads zero i j e = subst (λ (m : ℕ). leads ps 0 (back m).0 (back i).0 ≡ true) same (leads-none ps (back i).0)
      where
        same : i ≡ j
        same = omega arith
    back_leads (suc k) i zero e = absurd (omega arith)
    back_leads (suc k) i (suc j) e = leads-cons ps (back (suc j)).0 (back j).0 (back i).0 k (back_pair j) (back_leads k i j (omega arith))

    pub stuck_round : (k : ℕ) × (y : ℕ) × (k < 8) × (leads ps (suc k) y y ≡ true)
    stuck_round = go (pigeonhole 8 (λ i. (back i).0 - 1) (λ i l. below i))
      where
        below : (i : ℕ) → (back i).0 - 1 < 8
        below i = omega (arith, is_rule_lem (back i).0 (back i).1)

        go : (i : ℕ) × (j : ℕ) × (i < j) × (j ≤ 8) × ((back i).0 - 1 ≡ (back j).0 - 1) → (k : ℕ) × (y : ℕ) × (k < 8) × (leads ps (suc k) y y ≡ true)
        go (i, j, l, m, e) =
            let same : (back i).0 ≡ (back j).0 = omega (arith, is_rule_lem (back i).0 (back i).1, is_rule_lem (back j).0 (back j).1) in
            (j - suc i, (back j).0, omega arith, subst (λ (y : ℕ). leads ps (suc (j - suc i)) (back j).0 y ≡ true) same (back_leads (suc (j - suc i)) i j (omega arith)))
