-- A walk whose order list begins with REFLEX, TRANS1 and TRANS2 comes to the closed path, by whatever steps: each adds one fact that the
-- closed path holds, and only there do the rules behind them have their turn.
use Prim.Native.Nat.{ℕ, zero, suc, ◌≤◌}
use native.Mathlib.Omega.{arith}
use mathlib.Core.Path.{◌≡◌, refl, sym, ap, ◌∙◌, subst}
use mathlib.Core.Logic.{⊎_elim}
use mathlib.Core.Bool.{Bool, true, false}
use mathlib.Core.List.{List, [], ◌∷◌, ◌++◌, Memᴰ}
use mathlib.Core.Option.{Option, none, some, Option-elim}
use lib.Dec.{eqb}
use Rattle.logic.specs.Search.{◌and◌, ◌or◌, keep, or_else, any, first_of}
use Rattle.logic.specs.Query.{Query, term_count}
use Rattle.logic.specs.Facts.{Facts, Line, link_numbers, live, unjoined, add_reach, clash}
use Rattle.logic.specs.Rules.{Rule, REFLEX, TRANS1, TRANS2, FUNC, CYCLE, SCC, TOTAL, SHARE, Triple, triple, Move, move, Fact}
use Rattle.logic.specs.Rules.{reaches, conditions, alternatives, held, has_link, applies, branch, add, branches, triples, choose}
use Rattle.logic.specs.Walk.{look, clashing, applying, saturated, saturation, after, walk}
use Rattle.logic.specs.OurWalk.{Walks, goes_on, WalksEach, saturated_first}
use Rattle.logic.specs.Steps.{Step, at_first, one_more, AtMost}
use Rattle.logic.specs.Decision.{HasHeap, Follows, is_held, itself, by_link, onward, Closes}
use Rattle.theory.proofs.Basics.Search.{bool_cases, true-false, not_of, and_left, and_right, and_intro, or_cases}
use Rattle.theory.proofs.Basics.Search.{or_left, none-some, keep_some, keep-none, any_false, first_of-some}
use Rattle.theory.proofs.Basics.Search.{first_of-none, first_of_empty, first_of_skip, from-mem, from_intro, map_intro}
use Rattle.theory.proofs.Basics.Compare.{eqb-true}
use Rattle.theory.proofs.Query.Tied.{Accepted}
use Rattle.theory.proofs.Paths.Ranged.{InRange, Ranged, live_range}
use Rattle.theory.proofs.Paths.Applies.{has_link_range, has_link_intro, applies_linked, applies_met, applies_new, applies_intro}
use Rattle.theory.proofs.Walks.Order.{HoldsAll, triples_full, choose-some}
use Rattle.theory.proofs.Walks.OurWalk.{walks_unique, walk_walks, steps_first}
use Rattle.theory.proofs.Calls.Decision.{Known, clash-none, branch-known, heap_closed, walk-saturation, closed_known}
use Rattle.theory.proofs.Joins.Quotient.{alike, test_same}
use Rattle.closing.specs.Closed.{Closed, closing, Begins}

-- Of a rule that concludes one reachability fact

module _ (n : ℕ) (s : Facts) (m : Move) (i a b : ℕ) (one : alternatives n s.graph m ≡ (reaches i a b ∷ [])) where
  step_new : applies n s m ≡ true → (s.graph i).reach a b ≡ false
  unfolding held
  step_new app = any_false (held s.graph) (reaches i a b) (applies_new n s m app) (subst (Memᴰ (reaches i a b)) (sym one) (Memᴰ.head refl))

  step_held : has_link s.links m ≡ true → conditions n (live n s) s.graph m ≡ true → applies n s m ≡ false → (s.graph i).reach a b ≡ true
  unfolding held any ◌or◌
  step_held linked met idle = ⊎_elim (λ e. e) (λ e. absurd (true-false (applies_intro n s m linked met (ap (any (held s.graph)) one ∙ lone e)) idle)) (bool_cases ((s.graph i).reach a b))
    where
      lone : (s.graph i).reach a b ≡ false → any (held s.graph) (reaches i a b ∷ []) ≡ false
      lone e = rw e refl

-- Where nothing is left to the three rules

module _ (n : ℕ) (s : Facts) where
  -- none of them applies at a triple of numbers up to n
  abbrev Idle : Type 0
  Idle = (i : ℕ) → InRange s.links i → (r : Rule) → closing r ≡ true → (t : Triple) → Memᴰ t (triples n) → applies n s (move i r t) ≡ false

  pub closed_idle : Closed n s → (i : ℕ) (r : Rule) → closing r ≡ true → (t : Triple) → applies n s (move i r t) ≡ false
  unfolding closing conditions alternatives
  closed_idle c i REFLEX k (triple x y z) =
      not_of (λ app.
      let met = applies_met n s (move i REFLEX (triple x y z)) app in
      let l = has_link_range s.links i REFLEX (triple x y z) (applies_linked n s (move i REFLEX (triple x y z)) app) in
      true-false (c.itself_held i x l.0 l.1 (and_left (live n s x) (eqb y 0) (and_left (live n s x and eqb y 0) (eqb z 0) met))) (step_new n s (move i REFLEX (triple x y z)) i x x refl app))
  closed_idle c i TRANS1 k (triple x y z) =
      not_of (λ app.
      let met = applies_met n s (move i TRANS1 (triple x y z)) app in
      true-false (c.link_held i x y (and_left ((s.graph i).link x y) (eqb z 0) met)) (step_new n s (move i TRANS1 (triple x y z)) i x y refl app))
  closed_idle c i TRANS2 k (triple x y z) =
      not_of (λ app.
      let met = applies_met n s (move i TRANS2 (triple x y z)) app in
      true-false (c.onward_held i x y z (and_left ((s.graph i).reach x y) ((s.graph i).reach y z) met)
      (and_right ((s.graph i).reach x y) ((s.graph i).reach y z) met)) (step_new n s (move i TRANS2 (triple x y z)) i x z refl app))
  closed_idle c i FUNC k t = absurd (true-false k refl)
  closed_idle c i CYCLE k t = absurd (true-false k refl)
  closed_idle c i SCC k t = absurd (true-false k refl)
  closed_idle c i TOTAL k t = absurd (true-false k refl)
  closed_idle c i SHARE k t = absurd (true-false k refl)

  -- then all that follows is held
  module _ (ranged : Ranged n s) (idle : Idle) where
    up_to : (a : ℕ) → live n s a ≡ true → a ≤ n
    up_to a l = (live_range n s a l).1

    module _ (i : ℕ) (in_range : InRange s.links i) where
      linked : (r : Rule) (t : Triple) → has_link s.links (move i r t) ≡ true
      linked r t = has_link_intro s.links i r t in_range

      follows_held : {a b : ℕ} → Follows (live n s) (s.graph i).link (s.graph i).reach a b → (s.graph i).reach a b ≡ true
      unfolding closing conditions alternatives
      follows_held (is_held e) = e
      follows_held (itself {a = a} e) = step_held n s (move i REFLEX (triple a 0 0)) i a a refl (linked REFLEX (triple a 0 0))
          (and_intro (and_intro e refl) refl) (idle i in_range REFLEX refl (triple a 0 0) (triples_full n a 0 0 (up_to a e) (omega arith) (omega arith)))
      follows_held (by_link {a = a} {b = b} e) =
          let (p, p') = ranged.link_live i a b e in
          step_held n s (move i TRANS1 (triple a b 0)) i a b refl (linked TRANS1 (triple a b 0)) (and_intro e refl)
          (idle i in_range TRANS1 refl (triple a b 0) (triples_full n a b 0 (up_to a p) (up_to b p') (omega arith)))
      follows_held (onward {a = a} {b = b} {c = c} f g) =
          let x = follows_held f in
          let y = follows_held g in
          let (p, p') = ranged.reach_live i a b x in
          let (u, u') = ranged.reach_live i b c y in
          step_held n s (move i TRANS2 (triple a b c)) i a c refl (linked TRANS2 (triple a b c)) (and_intro x y)
          (idle i in_range TRANS2 refl (triple a b c) (triples_full n a b c (up_to a p) (up_to b p') (up_to c u')))

    same_facts : (t : Facts) → Closes n s t → s ≡ t
    same_facts t cl =
        alike s t (λ x. ap (λ (f : ℕ → ℕ). f x) (sym cl.same_rep)) (sym cl.same_links) (λ i a b. ap (λ (f : ℕ → ℕ → Bool). f a b) (sym (cl.same_link i)))
        (λ i a b. test_same ((s.graph i).reach a b) ((t.graph i).reach a b) (cl.reach_kept i a b) (λ e. follows_held i (cl.reach_linked i a b e) (cl.reach_follows i a b e)))

-- The choice under an order list that begins with the three rules

first_of_front : {A B : Type 0} (f : A → Option B) (xs ys : List A) (b : B) → first_of f xs ≡ some b → first_of f (xs ++ ys) ≡ some b
unfolding first_of or_else
first_of_front f [] ys b h = absurd (none-some h)
first_of_front f (x ∷ xs) ys b h = go (f x) (first_of f xs) (first_of f (xs ++ ys)) (first_of_front f xs ys b) h
  where
    go : (o p p' : Option _) → (p ≡ some b → p' ≡ some b) → or_else o p ≡ some b → or_else o p' ≡ some b
    go none p p' k e = k e
    go (some c) p p' k e = e

module _ (n : ℕ) (s : Facts) (order rest : List Rule) (b : Begins order rest) where
  -- the first place of a rule by some link, and by any
  abbrev at_link : Rule → ℕ → Option Move
  at_link r i = first_of (λ (t : Triple). keep (applies n s (move i r t)) (move i r t)) (triples n)

  abbrev at_rule : Rule → Option Move
  at_rule r = first_of (at_link r) (link_numbers s.links)

  idle_none : Idle n s → (r : Rule) → Memᴰ r b.front → at_rule r ≡ none
  unfolding keep link_numbers
  idle_none idle r m =
      first_of_empty (at_link r) (link_numbers s.links)
      (λ i j. let (low, high) = from-mem s.links 1 i j in
      first_of_empty (λ (t : Triple). keep (applies n s (move i r t)) (move i r t)) (triples n) (λ t k. rw (idle i (low, omega (arith, high)) r (b.front_closing r m) t k) refl))

  -- where the three rules are idle, the rest of the list chooses
  pub choose-rest : Idle n s → choose n order s ≡ choose n rest s
  unfolding choose
  choose-rest idle = ap (first_of at_rule) b.parts ∙ first_of_skip at_rule b.front rest (idle_none idle)

  -- where another rule is chosen, or none, they are idle
  chosen_idle : (o : Option Move) → choose n order s ≡ o → ((i : ℕ) (r : Rule) (t : Triple) → o ≡ some (move i r t) → closing r ≡ false) → Idle n s
  unfolding choose link_numbers
  chosen_idle o h other i in_range r k t m = go (first_of at_rule b.front) refl
    where
      go : (p : Option Move) → first_of at_rule b.front ≡ p → applies n s (move i r t) ≡ false
      go none e =
          let at_i = first_of-none (at_link r) i (first_of-none at_rule r e (b.closing_front r k)) (from_intro s.links 1 i in_range.0 (omega arith)) in
          keep-none (applies n s (move i r t)) (move i r t) (first_of-none (λ (u : Triple). keep (applies n s (move i r u)) (move i r u)) t at_i m)
      go (some c) e =
          let (r', j, f) = first_of-some at_rule b.front c e in
          let (i', j', f') = first_of-some (at_link r') (link_numbers s.links) c f in
          let (t', j'', f'') = first_of-some (λ (u : Triple). keep (applies n s (move i' r' u)) (move i' r' u)) (triples n) c f' in
          let whole : first_of at_rule order ≡ some c = ap (first_of at_rule) b.parts ∙ first_of_front at_rule b.front rest c e in
          absurd (true-false (b.front_closing r' j) (other i' r' t' (sym h ∙ whole ∙ ap some (sym (keep_some (applies n s (move i' r' t')) f'').1))))

-- at a closed path the rest of the order list decides what is seen
pub look-rest : (q : Query) (order rest : List Rule) → Begins order rest → (t : Facts) → Closed (term_count q) t → look q order t ≡ look q rest t
unfolding look
look-rest q order rest b t closed =
    ap (λ (o : Option Move). Option-elim (clash q t) (Option-elim o saturated applying) clashing)
    (choose-rest (term_count q) t order rest b (λ i in_range r k u m. closed_idle (term_count q) t closed i r k u))

-- The closed path

module _ (q : Query) (ok : Accepted q) (order rest : List Rule) (b : Begins order rest) (t : Facts) (closed : Closed (term_count q) t) where
  abbrev n : ℕ
  n = term_count q

  -- what is known of t and found there is known of the path that it closes, and found there
  abbrev Comes : ℕ → Facts → Type 0
  Comes k s = AtMost n t k × (HasHeap q t → (e : Facts) → Walks q order t (saturation e) → Walks q order s (saturation e))

  stays : (k : ℕ) (s : Facts) → AtMost n s k → s ≡ t → Comes k s
  stays k s most e = (subst (λ (u : Facts). AtMost n u k) e most, λ has f w. subst (λ (u : Facts). Walks q order u (saturation f)) (sym e) w)

  -- one step of the three rules, which adds a fact of t
  module _ (k : ℕ) (s : Facts) (known : Known q s) (most : AtMost n s k) (cl : Closes n s t) (m : Move) (h : choose n order s ≡ some m) (i x y : ℕ)
      (one : alternatives n s.graph m ≡ (reaches i x y ∷ [])) (in_t : (t.graph i).reach x y ≡ true) where
    abbrev s' : Facts
    s' = add n s (reaches i x y)

    app : applies n s m ≡ true
    app = choose-some n s order m h

    follows_on : (j : ℕ) {a c : ℕ} → Follows (live n s) (s.graph j).link (s.graph j).reach a c → Follows (live n s') (s'.graph j).link (s'.graph j).reach a c
    unfolding add branch unjoined add_reach live
    follows_on j (is_held {a = a} {b = c} e) = is_held (or_left (eqb j i and eqb a x and eqb c y) e)
    follows_on j (itself e) = itself e
    follows_on j (by_link e) = by_link e
    follows_on j (onward f g) = onward (follows_on j f) (follows_on j g)

    closes_on : Closes n s' t
    unfolding add branch unjoined add_reach
    closes_on =
        record {
          same_rep = cl.same_rep;
          same_links = cl.same_links;
          same_link = cl.same_link;
          reach_kept = λ j a c e.
              ⊎_elim
              (λ old. cl.reach_kept j a c old)
              (λ new.
              let both = and_left (eqb j i and eqb a x) (eqb c y) new in
              rw (eqb-true j i (and_left (eqb j i) (eqb a x) both), eqb-true a x (and_right (eqb j i) (eqb a x) both), eqb-true c y (and_right (eqb j i and eqb a x) (eqb c y) new)) in_t)
              (or_cases ((s.graph j).reach a c) (eqb j i and eqb a x and eqb c y) e);
          reach_linked = cl.reach_linked;
          reach_follows = λ j a c e. follows_on j (cl.reach_follows j a c e);
        }

    stepped : Step n s s'
    unfolding branches
    stepped = record { rule_move = m; applicable = app; branch = map_intro (add n s) (reaches i x y) (subst (Memᴰ (reaches i x y)) (sym one) (Memᴰ.head refl)) }

    looked : HasHeap q t → look q order s ≡ applying m
    unfolding look Option-elim
    looked has = go (clash q s) refl
      where
        go : (o : Option Line) → clash q s ≡ o → Option-elim o (Option-elim (choose n order s) saturated applying) clashing ≡ applying m
        go none e = rw h refl
        go (some l) e = absurd (clash-none q ok s known l e (heap_closed q ok s t known cl has))

    goes : HasHeap q t → (e : Facts) → Walks q order s' (saturation e) → Walks q order s (saturation e)
    unfolding after
    goes has e w = goes_on m (looked has) (subst (λ (cs : List Fact). WalksEach q order s cs (saturation e)) (sym one) (saturated_first w))

    comes : ((k' : ℕ) → k ≡ suc k' → (u : Facts) → Known q u → AtMost n u k' → Closes n u t → Comes k' u) → Comes k s
    unfolding stepped
    comes next = go k refl
      where
        known' : Known q s'
        known' = branch-known q ok s m known app s' stepped.branch

        go : (j : ℕ) → k ≡ j → Comes k s
        go zero e = absurd (let l = most 1 s' (one_more at_first stepped) in omega arith)
        go (suc j) e =
            let (most', back) = next j e s' known' (λ i u steps. let l = most (suc i) u (steps_first stepped steps) in omega arith) closes_on in
            (λ i u steps. let l = most' i u steps in omega arith, λ has f w. goes has f (back has f w))

  turn : (k : ℕ) (s : Facts) → Known q s → AtMost n s k → Closes n s t → ((k' : ℕ) → k ≡ suc k' → (u : Facts) → Known q u → AtMost n u k' → Closes n u t → Comes k' u) → Comes k s
  unfolding closing conditions alternatives live
  turn k s known most cl next = go (choose n order s) refl
    where
      idle_stays : Idle n s → Comes k s
      idle_stays idle = stays k s most (same_facts n s known.invariant.sane.ranged idle t cl)

      -- the rule of a move
      rule_in : Option Move → Rule
      rule_in none = REFLEX
      rule_in (some (move i r u)) = r

      other : (i : ℕ) (r : Rule) (u : Triple) → choose n order s ≡ some (move i r u) → closing r ≡ false → Comes k s
      other i r u h f = idle_stays (chosen_idle n s order rest b (some (move i r u)) h (λ i' r' u' e. ap (λ (o : Option Move). closing (rule_in o)) (sym e) ∙ f))

      go : (o : Option Move) → choose n order s ≡ o → Comes k s
      go none h = idle_stays (chosen_idle n s order rest b none h (λ i r u e. absurd (none-some e)))
      go (some (move i REFLEX (triple x y z))) h =
          let app = choose-some n s order (move i REFLEX (triple x y z)) h in
          let met = applies_met n s (move i REFLEX (triple x y z)) app in
          let l = has_link_range s.links i REFLEX (triple x y z) (applies_linked n s (move i REFLEX (triple x y z)) app) in
          comes k s known most cl (move i REFLEX (triple x y z)) h i x x refl
          (closed.itself_held i x l.0 (rw cl.same_links l.1)
          (rw cl.same_rep (and_left (live n s x) (eqb y 0) (and_left (live n s x and eqb y 0) (eqb z 0) met)))) next
      go (some (move i TRANS1 (triple x y z))) h =
          let met = applies_met n s (move i TRANS1 (triple x y z)) (choose-some n s order (move i TRANS1 (triple x y z)) h) in
          comes k s known most cl (move i TRANS1 (triple x y z)) h i x y refl (closed.link_held i x y (rw (cl.same_link i) (and_left ((s.graph i).link x y) (eqb z 0) met))) next
      go (some (move i TRANS2 (triple x y z))) h =
          let met = applies_met n s (move i TRANS2 (triple x y z)) (choose-some n s order (move i TRANS2 (triple x y z)) h) in
          comes k s known most cl (move i TRANS2 (triple x y z)) h i x z refl
          (closed.onward_held i x y z (cl.reach_kept i x y (and_left ((s.graph i).reach x y) ((s.graph i).reach y z) met))
          (cl.reach_kept i y z (and_right ((s.graph i).reach x y) ((s.graph i).reach y z) met))) next
      go (some (move i FUNC u)) h = other i FUNC u h refl
      go (some (move i CYCLE u)) h = other i CYCLE u h refl
      go (some (move i SCC u)) h = other i SCC u h refl
      go (some (move i TOTAL u)) h = other i TOTAL u h refl
      go (some (move i SHARE u)) h = other i SHARE u h refl

  run : (k : ℕ) (s : Facts) → Known q s → AtMost n s k → Closes n s t → Comes k s
  run zero s known most cl = turn zero s known most cl (λ k' e u kn mo c. absurd (omega arith))
  run (suc k) s known most cl = turn (suc k) s known most cl (λ k' e u kn mo c. let same : k ≡ k' = omega arith in subst (λ (j : ℕ). Comes j u) same (run k u kn (subst (AtMost n u) (sym same) mo) c))

  -- no more steps are left at the closed path, and where our walk of it is satisfiable, that of the path ends there too
  pub closed-most : (k : ℕ) (s : Facts) → Known q s → AtMost n s k → Closes n s t → AtMost n t k
  closed-most k s known most cl = (run k s known most cl).0

  pub closed-walk : (k : ℕ) (s : Facts) → Known q s → AtMost n s k → Closes n s t → HoldsAll order → (e : Facts) → walk q order k t ≡ saturation e → walk q order k s ≡ saturation e
  closed-walk k s known most cl full e h =
      let most_t = closed-most k s known most cl in
      let has = walk-saturation q ok order full k t (closed_known q ok s t known cl) most_t e h in
      let w : Walks q order t (saturation e) = subst (Walks q order t) h (walk_walks q order k t most_t) in
      walks_unique q order (walk_walks q order k s most) (saturation e) ((run k s known most cl).1 has e w)
