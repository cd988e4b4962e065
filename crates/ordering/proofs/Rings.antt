-- Rings: ways of pairs, the shortest way round, and that what is followed is the smallest.
use Prim.Native.Nat.{ℕ, zero, suc, ◌+◌, ◌-◌, ◌≤◌, ◌<◌}
use native.Mathlib.Omega.{arith}
use native.Mathlib.Nat.{eq-or-lt_of_le}
use mathlib.Core.Path.{◌≡◌, refl, sym, ap, ◌∙◌, subst}
use mathlib.Core.Logic.{⊎_elim}
use mathlib.Core.Bool.{true, false, false≢true}
use mathlib.Core.List.{List, [], ◌∷◌, ◌++◌, Memᴰ}
use mathlib.Core.Option.{Option, none, some, Option-elim}
use lib.ListN.{length, length-append}
use lib.Dec.{eqb, ltb}
use Rattle.logic.specs.Search.{◌and◌, from, any, first_of, find}
use Rattle.theory.proofs.Basics.Search.{true-false, none-some, not_of, and_left, and_right, and_intro, any-true, any_intro, all_intro, or_else_cases, first_of-none, find-some, find_none, find_lowest}
use Rattle.theory.proofs.Basics.Compare.{eqb-true, eqb_self, eqb_intro, le_cases, ltb_intro}
use Rattle.ordering.specs.Sheet.{Pair, is_rule, paired}
use Rattle.ordering.specs.Kept.{place_of, keeps, smaller, NoOrder, linked, each_once, is_ring, from_lowest, ShortestRing}
use Rattle.ordering.specs.Finding.{leads, onward, next_on, follow, ring_start, ring_of, shown_ring}
use Rattle.ordering.proofs.Lists.{has-mem, mem-has, Split, split, once_head, once_intro, rules, rule_is, is_rule_lem, rule_mem}
use Rattle.ordering.proofs.Places.{kept, smaller_from_nil, smaller_greater, smaller_equal}

-- the first answer along ascending numbers is that of the lowest that has one
first_of_lowest : {B : Type 0} (f : ℕ → Option B) (k i : ℕ) (b : B) → first_of f (from k i) ≡ some b → (x : ℕ) × (i ≤ x) × (f x ≡ some b) × ((j : ℕ) → i ≤ j → j < x → f j ≡ none)
unfolding first_of from
first_of_lowest f zero i b h = absurd (none-some h)
first_of_lowest f (suc k) i b h =
    ⊎_elim (λ e. (i, omega arith, e, λ j l r. absurd (omega arith)))
    (λ e.
    let r = first_of_lowest f k (suc i) b e.1 in
    (r.0, omega arith, r.2, λ j l m. ⊎_elim (λ q. ap f (sym q) ∙ e.0) (λ q. r.3 j q m) (eq-or-lt_of_le l)))
    (or_else_cases (f i) (first_of f (from k (suc i))) b h)

-- the rule numbers of the pairs are 1 to 8
pub record Numbered (ps : List Pair) : Type 0 where
  pub earlier_rule : (p : Pair) → Memᴰ p ps → is_rule p.earlier ≡ true
  pub later_rule : (p : Pair) → Memᴰ p ps → is_rule p.later ≡ true

abbrev PairOf : List Pair → ℕ → ℕ → Type 0
PairOf ps a b = (p : Pair) × Memᴰ p ps × (p.earlier ≡ a) × (p.later ≡ b)

pub paired-pair : (ps : List Pair) (a b : ℕ) → paired ps a b ≡ true → PairOf ps a b
unfolding paired
paired-pair ps a b h = go (any-true (λ p. eqb p.earlier a and eqb p.later b) ps h)
  where
    go : (p : Pair) × Memᴰ p ps × (eqb p.earlier a and eqb p.later b ≡ true) → PairOf ps a b
    go (p, m, t) =
        (p, m, eqb-true p.earlier a (and_left (eqb p.earlier a) (eqb p.later b) t), eqb-true p.later b (and_right (eqb p.earlier a) (eqb p.later b) t))

pub pair-paired : (ps : List Pair) (p : Pair) → Memᴰ p ps → paired ps p.earlier p.later ≡ true
unfolding paired
pair-paired ps p m = any_intro (λ q. eqb q.earlier p.earlier and eqb q.later p.later) p m (and_intro (eqb_self p.earlier) (eqb_self p.later))

-- "One with a ring has none."
linked_before : (ps : List Pair) (l : List ℕ) → keeps ps l ≡ true → (a : ℕ) (xs : List ℕ) (z : ℕ) → linked ps a xs z ≡ true → place_of l a < place_of l z
unfolding linked
linked_before ps l k a [] z h = go (paired-pair ps a z h)
  where
    go : PairOf ps a z → place_of l a < place_of l z
    go (p, m, e, f) = subst (λ (b : ℕ). place_of l b < place_of l z) e (subst (λ (b : ℕ). place_of l p.earlier < place_of l b) f (kept ps l p k m))
linked_before ps l k a (x ∷ xs) z h = go (paired-pair ps a x (and_left (paired ps a x) (linked ps x xs z) h)) (linked_before ps l k x xs z (and_right (paired ps a x) (linked ps x xs z) h))
  where
    go : PairOf ps a x → place_of l x < place_of l z → place_of l a < place_of l z
    go (p, m, e, f) rest =
        let first : place_of l a < place_of l x = subst (λ (b : ℕ). place_of l b < place_of l x) e (subst (λ (b : ℕ). place_of l p.earlier < place_of l b) f (kept ps l p k m)) in
        omega arith

pub ring_no_order : (ps : List Pair) (ring : List ℕ) → is_ring ps ring ≡ true → NoOrder ps
unfolding is_ring
ring_no_order ps [] h l o = absurd (false≢true h)
ring_no_order ps (x ∷ xs) h l o = not_of (λ k. let less = linked_before ps l k x xs x (and_left (linked ps x xs x) (each_once (x ∷ xs)) h) in omega arith)

-- Ways

module _ (ps : List Pair) where
  pub leads-cons : (a b z k : ℕ) → paired ps a b ≡ true → leads ps k b z ≡ true → leads ps (suc k) a z ≡ true
  unfolding leads
  leads-cons a b z k h l = go (paired-pair ps a b h)
    where
      go : PairOf ps a b → any (λ p. eqb p.earlier a and leads ps k p.later z) ps ≡ true
      go (p, m, e, f) =
          any_intro (λ p. eqb p.earlier a and leads ps k p.later z) p m (and_intro (eqb_intro e) (subst (λ (c : ℕ). leads ps k c z ≡ true) (sym f) l))

  -- a way of one pair and more
  abbrev First : ℕ → ℕ → ℕ → Type 0
  First k a z = (b : ℕ) × (paired ps a b ≡ true) × (leads ps k b z ≡ true)

  pub leads-first : (k a z : ℕ) → leads ps (suc k) a z ≡ true → First k a z
  unfolding leads
  leads-first k a z h = go (any-true (λ p. eqb p.earlier a and leads ps k p.later z) ps h)
    where
      go : (p : Pair) × Memᴰ p ps × (eqb p.earlier a and leads ps k p.later z ≡ true) → First k a z
      go (p, m, t) =
          let e : p.earlier ≡ a = eqb-true p.earlier a (and_left (eqb p.earlier a) (leads ps k p.later z) t) in
          (p.later, subst (λ (c : ℕ). paired ps c p.later ≡ true) e (pair-paired ps p m), and_right (eqb p.earlier a) (leads ps k p.later z) t)

  pub leads-none : (a : ℕ) → leads ps 0 a a ≡ true
  unfolding leads
  leads-none a = eqb_self a

  leads_end : (a z : ℕ) → leads ps 0 a z ≡ true → a ≡ z
  unfolding leads
  leads_end a z h = eqb-true a z h

  pub linked-leads : (a : ℕ) (xs : List ℕ) (z : ℕ) → linked ps a xs z ≡ true → leads ps (suc (length xs)) a z ≡ true
  unfolding linked
  linked-leads a [] z h = leads-cons a z z 0 h (leads-none z)
  linked-leads a (x ∷ xs) z h =
      leads-cons a x z (suc (length xs)) (and_left (paired ps a x) (linked ps x xs z) h) (linked-leads x xs z (and_right (paired ps a x) (linked ps x xs z) h))

  pub linked-split : (a : ℕ) (u : List ℕ) (y : ℕ) (v : List ℕ) (z : ℕ) → linked ps a (u ++ y ∷ v) z ≡ true → (linked ps a u y ≡ true) × (linked ps y v z ≡ true)
  unfolding linked
  linked-split a [] y v z h = (and_left (paired ps a y) (linked ps y v z) h, and_right (paired ps a y) (linked ps y v z) h)
  linked-split a (x ∷ u) y v z h =
      let r = linked-split x u y v z (and_right (paired ps a x) (linked ps x (u ++ y ∷ v) z) h) in
      (and_intro (and_left (paired ps a x) (linked ps x (u ++ y ∷ v) z) h) r.0, r.1)

  pub linked_join : (a : ℕ) (u : List ℕ) (y : ℕ) (v : List ℕ) (z : ℕ) → linked ps a u y ≡ true → linked ps y v z ≡ true → linked ps a (u ++ y ∷ v) z ≡ true
  unfolding linked
  linked_join a [] y v z h k = and_intro h k
  linked_join a (x ∷ u) y v z h k =
      and_intro (and_left (paired ps a x) (linked ps x u y) h) (linked_join x u y v z (and_right (paired ps a x) (linked ps x u y) h) k)

  -- no fewer than k pairs lead from a number back to it
  abbrev pub NoShorter : ℕ → Type 0
  NoShorter k = (j y : ℕ) → 1 ≤ j → j < k → leads ps j y y ≡ false

  pub way_once : (a : ℕ) (xs : List ℕ) (z : ℕ) → NoShorter (suc (length xs)) → linked ps a xs z ≡ true → each_once (a ∷ xs) ≡ true
  unfolding linked each_once any ◌and◌
  way_once a [] z short h = refl
  way_once a (x ∷ xs) z short h =
      once_intro a (x ∷ xs) (not_of (λ t. again (split a (has-mem a (x ∷ xs) t))))
      (way_once x xs z (λ j y l k. short j y l (omega arith)) (and_right (paired ps a x) (linked ps x xs z) h))
    where
      again : Split (x ∷ xs) a → ⊥
      again (u, v, e) =
          let round = (linked-split a u a v z (subst (λ (l : List ℕ). linked ps a l z ≡ true) e h)).0 in
          let size : length (x ∷ xs) ≡ length u + suc (length v) = ap length e ∙ length-append u (a ∷ v) in
          true-false (linked-leads a u a round) (short (suc (length u)) a (omega arith) (omega arith))

  -- each number of a way round is a start of a way round of that length
  pub way_round : (s : ℕ) (xs : List ℕ) (y : ℕ) → linked ps s xs s ≡ true → Memᴰ y xs → leads ps (suc (length xs)) y y ≡ true
  way_round s xs y h m = go (split y m)
    where
      go : Split xs y → leads ps (suc (length xs)) y y ≡ true
      go (u, v, e) =
          let parts = linked-split s u y v s (subst (λ (l : List ℕ). linked ps s l s ≡ true) e h) in
          let same : length (v ++ s ∷ u) ≡ length xs = omega (arith, length-append v (s ∷ u), length-append u (y ∷ v), ap length e) in
          subst (λ (k : ℕ). leads ps (suc k) y y ≡ true) same (linked-leads y (v ++ s ∷ u) y (linked_join y v s u y parts.1 parts.0))

-- What is followed

module _ (ps : List Pair) (rules_of : Numbered ps) where
  paired_rule : (a b : ℕ) → paired ps a b ≡ true → is_rule b ≡ true
  paired_rule a b h = go (paired-pair ps a b h)
    where
      go : PairOf ps a b → is_rule b ≡ true
      go (p, m, e, f) = subst (λ (c : ℕ). is_rule c ≡ true) f (rules_of.later_rule p m)

  linked_rule : (a : ℕ) (xs : List ℕ) (z : ℕ) → linked ps a xs z ≡ true → is_rule z ≡ true
  unfolding linked
  linked_rule a [] z h = paired_rule a z h
  linked_rule a (x ∷ xs) z h = linked_rule x xs z (and_right (paired ps a x) (linked ps x xs z) h)

  leads_rule : (k a z : ℕ) → is_rule a ≡ true → leads ps k a z ≡ true → is_rule z ≡ true
  leads_rule zero a z i h = subst (λ (c : ℕ). is_rule c ≡ true) (leads_end ps a z h) i
  leads_rule (suc k) a z i h = go (leads-first ps k a z h) (λ b j l. leads_rule k b z j l)
    where
      go : First ps k a z → ((b : ℕ) → is_rule b ≡ true → leads ps k b z ≡ true → is_rule z ≡ true) → is_rule z ≡ true
      go (b, p, l) ih = ih b (paired_rule a b p) l

  -- a number from which pairs lead is a rule's
  pub back_rule : (k y : ℕ) → leads ps (suc k) y y ≡ true → is_rule y ≡ true
  back_rule k y h = go (leads-first ps k y y h)
    where
      go : First ps k y y → is_rule y ≡ true
      go (b, p, l) = leads_rule k b y (paired_rule y b p) l

  -- what is next on the way to z
  record Next (z k a r : ℕ) : Type 0 where
    here : paired ps a r ≡ true
    rest : leads ps k r z ≡ true
    lowest : (y : ℕ) → onward ps z k a y ≡ true → is_rule y ≡ true → r ≤ y

  next_on_lem : (z k a : ℕ) → leads ps (suc k) a z ≡ true → Next z k a (next_on ps z k a)
  unfolding next_on Option-elim onward
  next_on_lem z k a h = go (find (onward ps z k a) rules) refl (leads-first ps k a z h)
    where
      found : (r : ℕ) → find (onward ps z k a) rules ≡ some r → Next z k a r
      found r e =
          let t = (find-some (onward ps z k a) rules r e).1 in
          record {
            here = and_left (paired ps a r) (leads ps k r z) t;
            rest = and_right (paired ps a r) (leads ps k r z) t;
            lowest = λ y o i. ⊎_elim (λ l. l) (λ l. absurd (true-false o (find_lowest (onward ps z k a) 8 1 r e y (is_rule_lem y i).0 l))) (le_cases r y);
          }

      go : (o : Option ℕ) → find (onward ps z k a) rules ≡ o → First ps k a z → Next z k a (Option-elim o 0 (λ r. r))
      go none e (b, p, l) = absurd (true-false (and_intro p l) (find_none (onward ps z k a) b e (rule_mem b (paired_rule a b p))))
      go (some r) e f = found r e

  pub follow-linked : (z k a : ℕ) → leads ps (suc k) a z ≡ true → (linked ps a (follow ps z k a) z ≡ true) × (length (follow ps z k a) ≡ k)
  unfolding linked follow
  follow-linked z zero a h = go (leads-first ps 0 a z h)
    where
      go : First ps 0 a z → (paired ps a z ≡ true) × (◌≡◌ {A = ℕ} 0 0)
      go (b, p, l) = (subst (λ (c : ℕ). paired ps a c ≡ true) (leads_end ps b z l) p, refl)
  follow-linked z (suc k) a h =
      let n = next_on_lem z (suc k) a h in
      let r = follow-linked z k (next_on ps z (suc k) a) n.rest in
      (and_intro n.here r.0, ap suc r.1)

  pub follow-smallest : (z k a : ℕ) (xs : List ℕ) → leads ps (suc k) a z ≡ true → linked ps a xs z ≡ true → length xs ≡ k → smaller xs (follow ps z k a) ≡ false
  unfolding linked follow onward
  follow-smallest z k a [] l h e = smaller_from_nil (follow ps z k a)
  follow-smallest z zero a (x ∷ xs) l h e = absurd (omega arith)
  follow-smallest z (suc k) a (x ∷ xs) l h e =
      ⊎_elim (λ q. smaller_equal x r xs (follow ps z k r) (sym q) ∙ follow-smallest z k r xs n.rest (subst (λ (c : ℕ). linked ps c xs z ≡ true) (sym q) way) (omega arith))
      (λ q. smaller_greater x r xs (follow ps z k r) q)
      (eq-or-lt_of_le (n.lowest x (and_intro here (subst (λ (j : ℕ). leads ps j x z ≡ true) e (linked-leads ps x xs z way))) (paired_rule a x here)))
    where
      r : ℕ
      r = next_on ps z (suc k) a

      n : Next z (suc k) a r
      n = next_on_lem z (suc k) a l

      here : paired ps a x ≡ true
      here = and_left (paired ps a x) (linked ps x xs z) h

      way : linked ps x xs z ≡ true
      way = and_right (paired ps a x) (linked ps x xs z) h

  -- the lowest start of a way round of k pairs
  record Start (k s : ℕ) : Type 0 where
    round : leads ps k s s ≡ true
    lowest_start : (x : ℕ) → is_rule x ≡ true → leads ps k x x ≡ true → s ≤ x

  start_of : (k s : ℕ) → ring_start ps k ≡ some s → Start k s
  unfolding ring_start
  start_of k s e =
      record {
        round = (find-some (λ s. leads ps k s s) rules s e).1;
        lowest_start = λ x i l. ⊎_elim (λ g. g) (λ g. absurd (true-false l (find_lowest (λ s. leads ps k s s) 8 1 s e x (is_rule_lem x i).0 g))) (le_cases s x);
      }

  -- the ring that is followed from the lowest start is the shortest and smallest
  abbrev ring_from : ℕ → ℕ → List ℕ
  ring_from k s = s ∷ follow ps s k s

  ring_right : (k s : ℕ) → NoShorter ps (suc k) → Start (suc k) s → ShortestRing ps (ring_from k s)
  unfolding is_ring from_lowest
  ring_right k s short start =
      record {
        is_ring_lem = and_intro f.0 once;
        from_lowest_lem = all_intro (ltb s) (follow ps s k s) above;
        shortest = least;
        smallest = first;
      }
    where
      f : (linked ps s (follow ps s k s) s ≡ true) × (length (follow ps s k s) ≡ k)
      f = follow-linked s k s start.round

      once : each_once (ring_from k s) ≡ true
      once = way_once ps s (follow ps s k s) s (λ j y l h. short j y l (omega (arith, f.1))) f.0

      above : (y : ℕ) → Memᴰ y (follow ps s k s) → ltb s y ≡ true
      above y m =
          let l : leads ps (suc k) y y ≡ true = subst (λ (j : ℕ). leads ps (suc j) y y ≡ true) f.1 (way_round ps s (follow ps s k s) y f.0 m) in
          let low : s ≤ y = start.lowest_start y (back_rule k y l) l in
          ⊎_elim (λ e. absurd (true-false (mem-has s (subst (λ (z : ℕ). Memᴰ z (follow ps s k s)) (sym e) m)) (once_head s (follow ps s k s) once))) (λ q. ltb_intro q) (eq-or-lt_of_le low)

      least : (l : List ℕ) → is_ring ps l ≡ true → length (ring_from k s) ≤ length l
      least [] h = absurd (false≢true h)
      least (x ∷ xs) h =
          ⊎_elim (λ g. omega (arith, f.1)) (λ g. absurd (true-false (linked-leads ps x xs x (and_left (linked ps x xs x) (each_once (x ∷ xs)) h)) (short (suc (length xs)) x (omega arith) g)))
          (le_cases (suc k) (suc (length xs)))

      first : (l : List ℕ) → is_ring ps l ≡ true → from_lowest l ≡ true → length l ≡ length (ring_from k s) → smaller l (ring_from k s) ≡ false
      first [] h low e = absurd (false≢true h)
      first (x ∷ xs) h low e =
          let way : linked ps x xs x ≡ true = and_left (linked ps x xs x) (each_once (x ∷ xs)) h in
          let size : length xs ≡ k = omega (arith, f.1) in
          let round : leads ps (suc k) x x ≡ true = subst (λ (j : ℕ). leads ps (suc j) x x ≡ true) size (linked-leads ps x xs x way) in
          ⊎_elim (λ q. smaller_equal x s xs (follow ps s k s) (sym q) ∙ follow-smallest s k s xs start.round (subst (λ (c : ℕ). linked ps c xs c ≡ true) (sym q) way) size)
          (λ q. smaller_greater x s xs (follow ps s k s) q)
          (eq-or-lt_of_le (start.lowest_start x (linked_rule x xs x way) round))

  -- what has a way round of k pairs from some start, and what has none
  ring_of-some : (k : ℕ) (ring : List ℕ) → ring_of ps k ≡ some ring → (s : ℕ) × (ring_start ps k ≡ some s) × (s ∷ follow ps s (k - 1) s ≡ ring)
  unfolding ring_of Option-elim
  ring_of-some k ring h = go (ring_start ps k) refl h
    where
      go : (o : Option ℕ) → ring_start ps k ≡ o → Option-elim o none (λ s. some (s ∷ follow ps s (k - 1) s)) ≡ some ring → (s : ℕ) × (ring_start ps k ≡ some s) × (s ∷ follow ps s (k - 1) s ≡ ring)
      go none e h = absurd (none-some h)
      go (some s) e h = (s, e, cc)

  ring_of-none : (k : ℕ) → ring_of ps k ≡ none → ring_start ps k ≡ none
  unfolding ring_of Option-elim
  ring_of-none k h = go (ring_start ps k) h
    where
      go : (o : Option ℕ) → Path (Option (List ℕ)) (Option-elim o none (λ s. some (s ∷ follow ps s (k - 1) s))) none → o ≡ none
      go none h = refl
      go (some s) h = absurd (none-some (sym h))

  no_round : (k y : ℕ) → 1 ≤ k → ring_of ps k ≡ none → leads ps k y y ≡ false
  unfolding ring_start
  no_round zero y l h = absurd (omega arith)
  no_round (suc k) y l h =
      not_of (λ t. true-false t (find_none (λ s. leads ps (suc k) s s) y (ring_of-none (suc k) h) (rule_mem y (back_rule k y t))))

  -- the ring at the lowest length that has one
  record Lowest (k : ℕ) (ring : List ℕ) : Type 0 where
    first : 1 ≤ k
    found : ring_of ps k ≡ some ring
    below : (j : ℕ) → 1 ≤ j → j < k → ring_of ps j ≡ none

  lowest_right : (k : ℕ) (ring : List ℕ) → Lowest k ring → ShortestRing ps ring
  lowest_right zero ring l = absurd (omega (arith, l.first))
  lowest_right (suc k) ring l = go (ring_of-some (suc k) ring l.found)
    where
      less : suc k - 1 ≡ k
      less = omega arith

      go : (s : ℕ) × (ring_start ps (suc k) ≡ some s) × (s ∷ follow ps s (suc k - 1) s ≡ ring) → ShortestRing ps ring
      go (s, e, f) =
          subst (λ (r : List ℕ). ShortestRing ps r) (ap (λ (j : ℕ). s ∷ follow ps s j s) (sym less) ∙ f)
          (ring_right k s (λ j y a b. no_round j y a (l.below j a b)) (start_of (suc k) s e))

  -- where pairs lead from a number back to it, the ring shown is the shortest and smallest
  pub shown_right : (k y : ℕ) → k < 8 → leads ps (suc k) y y ≡ true → ShortestRing ps (shown_ring ps)
  unfolding shown_ring Option-elim
  shown_right k y l h = go (first_of (ring_of ps) rules) refl
    where
      go : (o : Option (List ℕ)) → first_of (ring_of ps) rules ≡ o → ShortestRing ps (Option-elim o [] (λ ring. ring))
      go none e = absurd (true-false h (no_round (suc k) y (omega arith) (first_of-none (ring_of ps) (suc k) e (rule_mem (suc k) (rule_is (suc k) (omega arith) (omega arith))))))
      go (some ring) e =
          let r = first_of_lowest (ring_of ps) 8 1 ring e in
          lowest_right r.0 ring (record { first = r.1; found = r.2; below = r.3 })
