-- The search through the sizes: none is found only where no heap of any size meets the query, and no heap that meets it comes before
-- the one found.
use Prim.Native.Nat.{ℕ, zero, suc, ◌+◌, ◌≤◌, ◌<◌}
use native.Mathlib.Omega.{arith}
use mathlib.Core.Path.{◌≡◌, refl, sym, ap, ◌∙◌, subst, subst₂}
use mathlib.Core.Logic.{◌⊎◌, ⊎_elim, inl, inr}
use mathlib.Core.Bool.{Bool, true, false, cond, false≢true}
use mathlib.Core.List.Memᴰ
use mathlib.Core.List.{List, [], ◌∷◌, ◌++◌, map, Memᴰ}
use mathlib.Core.Option.{Option, none, some}
use lib.ListN.{length, length-map}
use lib.Dec.{eqb}
use Rattle.logic.specs.Search.{from, is_some}
use Rattle.logic.specs.Query.{term_count}
use Rattle.logic.specs.Facts.{terms}
use Rattle.logic.specs.Heap.{Heap, IsHeap, value}
use Rattle.logic.specs.Shown.{place_of}
use Rattle.theory.proofs.Basics.Search.{none-some, first_of-none, from_intro}
use Rattle.theory.proofs.Basics.Compare.{eqb_intro, eqb-false, eq_cases, le_cases}
use Rattle.theory.proofs.Soundness.Value.{value_node}
use Rattle.theory.proofs.Completeness.Placed.{place_of_injective, length_from}
use Rattle.between.specs.Meaning.{BetweenQuery, MeetsBetween}
use Rattle.between.proofs.Firsts.{firsts, firsts_has, firsts_short, firsts_within, firsts_place, firsts-length}
use Rattle.between.proofs.SmallModel.{or_one, small, small_is, small-value, small_size, small-meets, small-named}
use Rattle.between_search.specs.Tests.{used}
use Rattle.between_search.specs.Search.{Found, links_found, size_found, most_nodes, heap_found}
use Rattle.between_search.specs.Promise.{Before, lower, same, rank}
use Rattle.between_search.proofs.Seek.{before-append, first_of_lowest}
use Rattle.between_search.proofs.OneLink.{AcceptedSix}
use Rattle.between_search.proofs.Complete.{used-firsts, links_of, nodes_of, links_grown, nodes_grown}
use Rattle.between_search.proofs.Searching.{GrownLinks, GrownNodes, FirstFound, search_none, search_some, sorted_some}

-- a list with something in it is itself
or_one-is : (xs : List ℕ) → 1 ≤ length xs → or_one xs ≡ xs
unfolding or_one
or_one-is [] h = absurd (omega arith)
or_one-is (x ∷ xs) h = refl

or_one-none : (xs : List ℕ) → length xs ≡ 0 → length (or_one xs) ≡ 1
unfolding or_one
or_one-none [] h = refl
or_one-none (x ∷ xs) h = absurd (omega arith)

pub most_cases : (n : ℕ) → ((n ≡ 0) × (most_nodes n ≡ 1)) ⊎ ((1 ≤ n) × (most_nodes n ≡ n))
unfolding most_nodes
most_cases zero = inl (refl, refl)
most_cases (suc n) = inr (omega arith, rw (eqb-false (suc n) 0 (λ e. absurd (omega arith))))

-- the first numbers
before_head : {x y : ℕ} {xs ys : List ℕ} → Before (x ∷ xs) (y ∷ ys) → (x < y) ⊎ (x ≡ y)
before_head (lower l) = inl l
before_head (same b) = inr refl

-- numbers in front, and behind
before_front : (ys ys' : List ℕ) {us ws : List ℕ} → Before us ws → Before (us ++ ys) (ws ++ ys')
before_front ys ys' (lower l) = lower l
before_front ys ys' (same c) = same (before_front ys ys' c)

before_behind : (us : List ℕ) {cs ds : List ℕ} → Before cs ds → Before (us ++ cs) (us ++ ds)
before_behind [] c = c
before_behind (u ∷ us) c = same (before_behind us c)

with_count : (n : ℕ) (xs xs' ys ys' : List ℕ) → length xs ≡ length xs' → Before (xs ++ ys) (xs' ++ ys') → Before (xs ++ (n ∷ ys)) (xs' ++ (n ∷ ys'))
with_count n xs xs' ys ys' p b =
    ⊎_elim
    (λ c. before_front (n ∷ ys) (n ∷ ys') c)
    (λ c. subst (λ (zs : List ℕ). Before (xs ++ (n ∷ ys)) (zs ++ (n ∷ ys'))) c.0 (before_behind xs (same c.1)))
    (before-append xs ys xs' ys' p b)

module _ (q : BetweenQuery) (ok : AcceptedSix q) (few : term_count q.base ≤ 5) where
  abbrev n : ℕ
  n = term_count q.base

  -- the size at which a heap that meets the query is found, numbered as its nodes are first named
  pub record Sized (h : Heap) : Type 0 where
    pub size : ℕ
    pub some_node : 1 ≤ size
    pub within : size ≤ most_nodes n
    pub no_larger : size ≤ h.size
    pub named_all : 1 ≤ n → size ≡ used (value h q.base.entries) n
    pub found : links_found q true size ≡ none → ⊥

  module _ (h : Heap) (met : MeetsBetween h q) where
    abbrev val : ℕ → ℕ
    val = value h q.base.entries

    abbrev is : IsHeap h
    is = met.meets.is_heap

    abbrev s : Heap
    s = small q.base ok.accepted.base h is

    abbrev sval : ℕ → ℕ
    sval = value s q.base.entries

    met-small : MeetsBetween s q
    met-small = small-meets q ok.accepted h met

    some_first : 1 ≤ n → 1 ≤ length (firsts val n)
    some_first l = nonempty (firsts val n) (firsts_has val n 1 (omega arith) l)
      where
        nonempty : (xs : List ℕ) → Memᴰ (val 1) xs → 1 ≤ length xs
        nonempty [] m = absurd (Memᴰ.not-nil m)
        nonempty (x ∷ xs) m = omega arith

    size_is : 1 ≤ n → s.size ≡ length (firsts val n)
    size_is l = small_size q.base ok.accepted.base h is ∙ ap length (or_one-is (firsts val n) (some_first l))

    place_is : (t : ℕ) → 1 ≤ t → t ≤ n → sval t ≡ place_of (val t) (firsts val n)
    place_is t a b = small-value q.base ok.accepted.base h is t (a, b)
        ∙ ap (place_of (val t)) (small-named q.base ok.accepted.base h is ∙ or_one-is (firsts val n) (some_first (omega arith)))

    -- places are apart as the nodes are
    apart : (u w : ℕ) → 1 ≤ u → u ≤ n → 1 ≤ w → w ≤ n → eqb (sval u) (sval w) ≡ eqb (val u) (val w)
    apart u w a b c d =
        ⊎_elim
        (λ e. eqb_intro (place_is u a b ∙ ap (λ (x : ℕ). place_of x (firsts val n)) e ∙ sym (place_is w c d)) ∙ sym (eqb_intro e))
        (λ e. eqb-false (sval u) (sval w) (λ p. e.0 (place_of_injective (val u) (val w) (firsts_has val n u a b) (firsts_has val n w c d) (sym (place_is u a b) ∙ p ∙ place_is w c d))) ∙ sym e.1)
        (eq_cases (val u) (val w))

    used-same : (t : ℕ) → t ≤ n → used sval t ≡ used val t
    used-same t l = used-firsts sval t ∙ firsts-length sval val t (λ u w a b c d. apart u w a (omega arith) c (omega arith)) ∙ sym (used-firsts val t)

    pub sized : Sized h
    sized =
        record {
          size = s.size;
          some_node = (small_is q.base ok.accepted.base h is).nonempty;
          within = ⊎_elim (λ z. omega (arith, none-size z.0, z.1)) (λ l. omega (arith, size_is l.0, firsts_short val n, l.1)) (most_cases n);
          no_larger = ⊎_elim (λ z. omega (arith, none-size z.0, is.nonempty))
              (λ l. omega (arith, size_is l.0, firsts_within val h.size n (λ u a b. value_node h q.base.entries is u))) (most_cases n);
          named_all = λ l. size_is l ∙ sym (used-firsts val n);
          found = λ e. search_none q true s.size e (links_of s) (nodes_of q s) (links_grown q ok s met-small five) (nodes_grown q ok s met-small five true (λ l. full l) (λ t u l. order u l));
        }
      where
        none-size : n ≡ 0 → s.size ≡ 1
        none-size z = small_size q.base ok.accepted.base h is ∙ or_one-none (firsts val n) (omega (arith, firsts_short val n, z))

        five : s.size ≤ 5
        five = ⊎_elim (λ z. omega (arith, none-size z.0)) (λ l. omega (arith, size_is l.0, firsts_short val n, few)) (most_cases n)

        full : 1 ≤ n → s.size ≤ used sval n
        full l = omega (arith, size_is l, used-same n (omega arith), used-firsts val n)

        order : (u : ℕ) → u < n → sval (suc u) ≤ used sval u + 1
        order u l = omega (arith, place_is (suc u) (omega arith) l, firsts_place val n u l, used-same u (omega arith), used-firsts val u)

  -- one size
  size-some : (m : ℕ) (c : Found) → size_found q m ≡ some c → links_found q false m ≡ some c
  unfolding size_found
  size-some m c e = go (is_some (links_found q true m)) e
    where
      go : (b : Bool) → cond b (links_found q false m) none ≡ some c → links_found q false m ≡ some c
      go true f = f
      go false f = absurd (none-some f)

  size_none : (m : ℕ) → size_found q m ≡ none → (links_found q true m ≡ none → ⊥) → ⊥
  unfolding size_found is_some
  size_none m e d = go (links_found q true m) refl
    where
      go : (o : Option Found) → links_found q true m ≡ o → ⊥
      go none f = d f
      go (some c) f = sorted_some q m c f (subst (λ (o : Option Found). cond (is_some o) (links_found q false m) none ≡ none) f e)

  pub none_right : heap_found q ≡ none → (h : Heap) → MeetsBetween h q → ⊥
  unfolding heap_found
  none_right e h met =
      let z = sized h met in
      size_none z.size
      (first_of-none (size_found q) z.size e (from_intro (most_nodes n) 1 z.size z.some_node (omega (arith, z.within))))
      z.found

  -- what is found, and at which size
  pub record FoundFirst (c : Found) : Type 0 where
    pub size : ℕ
    pub some_node : 1 ≤ size
    pub within : size ≤ most_nodes n
    pub search : FirstFound q false size c
    pub none_smaller : (j : ℕ) → 1 ≤ j → j < size → size_found q j ≡ none

  pub some_right : (c : Found) → heap_found q ≡ some c → FoundFirst c
  unfolding heap_found
  some_right c e =
      let r = first_of_lowest (size_found q) (most_nodes n) 1 c e in
      record { size = r.0; some_node = r.1; within = omega (arith, r.2); search = search_some q false r.0 c (size-some r.0 c r.3); none_smaller = λ j a b. r.4 j a b }

  -- no heap that meets the query comes before what is found
  module _ (c : Found) (f : FoundFirst c) where
    pub first_right : (h : Heap) → MeetsBetween h q → (ns : List ℕ) → f.search.nodes ≡ n ∷ ns → (ls : List ℕ) → f.search.links ≡ f.size ∷ ls →
        length ls ≡ f.size → Before (rank q h) ((f.size ∷ ls) ++ ns) → ⊥
    unfolding rank terms
    first_right h met ns en ls el sl b = at (eq_cases h.size f.size) b
      where
        z : Sized h
        z = sized h met

        not_smaller : f.size ≤ z.size
        not_smaller = ⊎_elim (λ l. l) (λ l. absurd (size_none z.size (f.none_smaller z.size z.some_node l) z.found)) (le_cases f.size z.size)

        at : (h.size ≡ f.size) ⊎ ((h.size ≡ f.size → ⊥) × (eqb h.size f.size ≡ false)) → Before (links_of h ++ map (value h q.base.entries) (from n 1)) ((f.size ∷ ls) ++ ns) → ⊥
        at (inr d) k = ⊎_elim (λ l. let u = z.no_larger in omega (arith, not_smaller, u, l)) (λ e. d.0 e) (before_head k)
        at (inl e) k =
            let five : h.size ≤ 5 = ⊎_elim (λ w. omega (arith, f.within, w.1, e)) (λ w. omega (arith, f.within, w.1, e, few)) (most_cases n) in
            let full : 1 ≤ n → h.size ≤ used (value h q.base.entries) n = λ l. omega (arith, not_smaller, z.named_all l, e) in
            let gl = links_grown q ok h met five in
            let gn = nodes_grown q ok h met five false full (λ t. absurd (false≢true t)) in
            let sizes : length (links_of h) ≡ length (f.size ∷ ls) = omega (arith, length-map (from h.size 1) (h.link 1), length_from h.size 1, e, sl) in
            let gl' = subst (λ (m : ℕ). GrownLinks q false m (links_of h)) e gl in
            let gn' = subst (λ (m : ℕ). GrownNodes q false m (links_of h) (nodes_of q h)) e gn in
            f.search.first (links_of h) (nodes_of q h) gl' gn'
            (subst₂ (λ (x y : List ℕ). Before (links_of h ++ nodes_of q h) (x ++ y)) (sym el) (sym en) (with_count n (links_of h) (f.size ∷ ls) (map (value h q.base.entries) (from n 1)) ns sizes k))
