-- A heap that meets the query is one that the search meets: its links and the nodes of its terms grow by the search's rules.
use Prim.Native.Nat.{ℕ, zero, suc, ◌+◌, ◌-◌, ◌≤◌, ◌<◌}
use native.Mathlib.Omega.{arith}
use mathlib.Core.Path.{◌≡◌, refl, sym, ap, ◌∙◌, subst}
use mathlib.Core.Logic.{⊎_elim}
use mathlib.Core.Bool.{Bool, true, false, not, cond, ◌&&◌}
use mathlib.Core.List.{List, [], ◌∷◌, ◌++◌, map}
use lib.ListN.{length, get_or, length-append}
use lib.Dec.{eqb, ltb}
use borrow.Author.Tests.{le-ltb}
use Rattle.logic.specs.Search.{from, any}
use Rattle.logic.specs.Query.{argument_of, term_count}
use Rattle.logic.specs.Heap.{Heap, Node, IsHeap, value}
use Rattle.theory.proofs.Basics.Search.{not_intro, true-false}
use Rattle.theory.proofs.Basics.Compare.{le_cases}
use Rattle.theory.proofs.Soundness.Value.{accepted_below, value_node}
use Rattle.between.specs.Meaning.{BetweenQuery, MeetsBetween}
use Rattle.between.proofs.Firsts.{firsts, seen_before, firsts-seen, firsts-new, firsts_short}
use Rattle.between_search.specs.Tests.{is_fresh, used, breaks}
use Rattle.between_search.specs.Search.{entry, lowest_node, highest_node}
use Rattle.between_search.proofs.Seek.{Grown}
use Rattle.between_search.proofs.Growing.{Prefix, prefix_next, grow_by}
use Rattle.between_search.proofs.Due.{first_of_lem, or_no, any_none}
use Rattle.between_search.proofs.Alike.{used_alike, breaks_alike}
use Rattle.between_search.proofs.Tested.{equal_met, reach_met, between_met, nil_holds, fields_hold}
use Rattle.between_search.proofs.OneLink.{AcceptedSix, reach_one, value_one}
use Rattle.between_search.proofs.Sound.{low_any, low-link, high-any, high-link}

-- How many nodes are named, as the length of a list

pub used-firsts : (f : ℕ → ℕ) (t : ℕ) → used f t ≡ length (firsts f t)
unfolding used is_fresh seen_before
used-firsts f zero = let e : length (firsts f 0) ≡ 0 = omega (arith, firsts_short f 0) in sym e
used-firsts f (suc t) = go (used-firsts f t) (seen_before f t) refl
  where
    before : suc t - 1 ≡ t
    before = omega arith

    go : used f t ≡ length (firsts f t) → (b : Bool) → seen_before f t ≡ b → used f t + cond (not (any (λ u. eqb (f u) (f (suc t))) (from (suc t - 1) 1))) 1 0 ≡ length (firsts f (suc t))
    go ih true e = rw (before, e) (plus ∙ sym (ap length (firsts-seen f t e)))
      where
        plus : used f t + 0 ≡ length (firsts f t)
        plus = omega (arith, ih)
    go ih false e = rw (before, e) (ap (λ (k : ℕ). k + 1) ih ∙ sym (length-append (firsts f t) (f (suc t) ∷ [])) ∙ sym (ap length (firsts-new f t e)))

-- one more term names at most one node more
used_grows : (f : ℕ → ℕ) (t d : ℕ) → used f (t + d) ≤ used f t + d
unfolding used
used_grows f t zero = let e : t + 0 ≡ t = omega arith in omega (arith, ap (used f) e)
used_grows f t (suc d) =
    let e : t + suc d ≡ suc (t + d) = omega arith in
    let ih = used_grows f t d in
    omega (arith, ap (used f) e, ih, at_most (is_fresh f (suc (t + d))))
  where
    at_most : (b : Bool) → cond b 1 0 ≤ 1
    at_most true = omega arith
    at_most false = omega arith

pub used_enough : (f : ℕ → ℕ) (n t m : ℕ) → t ≤ n → m ≤ used f n → m ≤ used f t + (n - t)
used_enough f n t m h l = let e : t + (n - t) ≡ n = omega arith in let g = used_grows f t (n - t) in omega (arith, ap (used f) e, g, l)

-- The lists of a heap

abbrev pub links_of : Heap → List ℕ
links_of h = h.size ∷ map (h.link 1) (from h.size 1)

abbrev pub nodes_of : BetweenQuery → Heap → List ℕ
nodes_of q h = term_count q.base ∷ map (value h q.base.entries) (from (term_count q.base) 1)

listed_at : (f : ℕ → ℕ) (k i v : ℕ) → i ≤ v → v < i + k → get_or (map f (from k i)) (v - i) 0 ≡ f v
unfolding from
listed_at f zero i v l h = absurd (omega arith)
listed_at f (suc k) i v l h = go (λ a b. listed_at f k (suc i) v a b) (v - i) refl
  where
    go : (suc i ≤ v → v < suc i + k → get_or (map f (from k (suc i))) (v - suc i) 0 ≡ f v) → (d : ℕ) → v - i ≡ d → get_or (f i ∷ map f (from k (suc i))) d 0 ≡ f v
    go ih zero e = let p : i ≡ v = omega arith in ap f p
    go ih (suc d) e = let p : d ≡ v - suc i = omega arith in ap (λ (x : ℕ). get_or (map f (from k (suc i))) x 0) p ∙ ih (omega arith) (omega arith)

pub list_entry : (f : ℕ → ℕ) (k v : ℕ) → 1 ≤ v → v ≤ k → entry (k ∷ map f (from k 1)) v ≡ f v
unfolding entry
list_entry f k zero l h = absurd (omega arith)
list_entry f k (suc v) l h = let p : v ≡ suc v - 1 = omega arith in ap (λ (x : ℕ). get_or (map f (from k 1)) x 0) p ∙ listed_at f k 1 (suc v) l (omega arith)

first_prefix : (f : ℕ → ℕ) (k : ℕ) → Prefix f (k ∷ []) 1
first_prefix f k = record { size = refl; each = λ u l h. absurd (omega arith) }

module _ (q : BetweenQuery) (ok : AcceptedSix q) (h : Heap) (met : MeetsBetween h q) (small : h.size ≤ 5) where
  abbrev n : ℕ
  n = term_count q.base

  abbrev m : ℕ
  m = h.size

  abbrev val : ℕ → ℕ
  val = value h q.base.entries

  is : IsHeap h
  is = met.meets.is_heap

  pub links_grown : Grown (λ j xs. 1) (λ j xs. m) (λ j xs. true) m 1 (m ∷ []) (links_of h)
  links_grown =
      grow_by (λ j xs. 1) (λ j xs. m) (λ j xs. true) (h.link 1) (m + 1)
      (λ t ys a b p. let r = is.link_node 1 t (a, omega arith) in (r.0, r.1, refl)) m 1 (m ∷ []) (omega arith) (omega arith) (first_prefix (h.link 1) m)

  -- no test breaks, but for the count of named nodes
  unbroken : (1 ≤ n → m ≤ used val n) → (t : ℕ) → 1 ≤ t → t ≤ n → breaks q m (h.link 1) val n t ≡ false
  unfolding breaks
  unbroken all t a b =
      or_no (le-ltb _ _ (used_enough val n t m b (all (omega arith))))
      (or_no (nil_holds h is small q.base.entries met.meets.nil_node t)
      (or_no (fields_hold q.base.fields ok.accepted.base.field_number val h.field met.meets.fields t)
      (or_no (any_none _ q.base.equalities (λ l k. let r = ok.accepted.base.equal_terms l k in (equal_met h is small q.base.entries n l r.0 r.1).0 (met.meets.equalities l k) t a b))
      (or_no (any_none _ q.base.reachability (λ l k. let r = ok.accepted.base.reach_terms l k in
      (reach_met h is small q.base.entries n l (reach_one q ok l k) r.0 r.1).0 (met.meets.reachability l k) t a b))
      (any_none _ q.betweens (λ l k. let r = ok.accepted.between_terms l k in (between_met h is small q.base.entries n l r.0 r.1 r.2).0 (met.betweens l k) t a b))))))

  link-entry : (v : ℕ) → (1 ≤ v) × (v ≤ m) → h.link 1 v ≡ entry (links_of h) v
  link-entry v r = sym (list_entry (h.link 1) m v r.0 r.1)

  pub nodes_grown : (sorted : Bool) → (1 ≤ n → m ≤ used val n) → (sorted ≡ true → (u : ℕ) → u < n → val (suc u) ≤ used val u + 1) →
      Grown (λ t xs. lowest_node q (entry (links_of h)) t (entry xs)) (λ t xs. highest_node q sorted m (entry (links_of h)) t (entry xs))
      (λ t xs. not (breaks q m (entry (links_of h)) (entry xs) n t)) n 1 (n ∷ []) (nodes_of q h)
  nodes_grown sorted all order = grow_by _ _ _ val (n + 1) good n 1 (n ∷ []) (omega arith) (omega arith) (first_prefix val n)
    where
      good : (t : ℕ) (ys : List ℕ) → 1 ≤ t → t < n + 1 → Prefix val ys t → (lowest_node q (entry (links_of h)) t (entry ys) ≤ val t)
          × (val t ≤ highest_node q sorted m (entry (links_of h)) t (entry ys)) × (not (breaks q m (entry (links_of h)) (entry (ys ++ (val t ∷ []))) n t) ≡ true)
      good t ys a b p = (
        bounds.0,
        bounds.1,
        not_intro (sym (breaks_alike q ok.accepted m (h.link 1) (entry (links_of h)) (is.link_node 1) link-entry t a val
            (entry (ys ++ (val t ∷ []))) (λ u x y. sym ((prefix_next val ys t p).each u x (omega arith))) (λ u x y. value_node h q.base.entries is u) n)
            ∙ unbroken all t a (omega arith)),
      )
        where
          r : Node h (val t)
          r = value_node h q.base.entries is t

          chosen : (o : argument_of q.base.entries t ≡ 0) → val t ≤ cond (sorted && ltb (used (entry ys) (t - 1) + 1) m) (used (entry ys) (t - 1) + 1) m
          chosen o = go sorted refl (sorted && ltb (used (entry ys) (t - 1) + 1) m) refl
            where
              go : (s : Bool) → sorted ≡ s → (c : Bool) → sorted && ltb (used (entry ys) (t - 1) + 1) m ≡ c → val t ≤ cond c (used (entry ys) (t - 1) + 1) m
              go s e false f = r.1
              go true e true f =
                  let k : suc (t - 1) ≡ t = omega arith in
                  let o = order e (t - 1) (omega arith) in
                  let w = used_alike (entry ys) val (t - 1) (λ u x y. p.each u x (omega arith)) in
                  omega (arith, o, w, ap val k)
              go false e true f = absurd (true-false (first_of_lem sorted (ltb (used (entry ys) (t - 1) + 1) m) f) e)

          bounds : (lowest_node q (entry (links_of h)) t (entry ys) ≤ val t) × (val t ≤ highest_node q sorted m (entry (links_of h)) t (entry ys))
          bounds =
              ⊎_elim
              (λ l.
              let arg : ℕ = argument_of q.base.entries t in
              let below = accepted_below q.base ok.accepted.base in
              let s = below t l in
              let e : entry (links_of h) (entry ys (argument_of q.base.entries t)) ≡ val t = ap (entry (links_of h))
              (p.each (argument_of q.base.entries t) l s)
              ∙ sym (link-entry (val (argument_of q.base.entries t)) (value_node h q.base.entries is (argument_of q.base.entries t)))
              ∙ sym (value_one q ok h t l) in
              (omega (arith, low-link q (entry (links_of h)) t (entry ys) l, e), omega (arith, high-link q (entry (links_of h)) t (entry ys) sorted m l, e)))
              (λ z.
              let o : argument_of q.base.entries t ≡ 0 = omega arith in
              (omega (arith, low_any q (entry (links_of h)) t (entry ys) o, r.0), subst (λ (x : ℕ). val t ≤ x) (sym (high-any q (entry (links_of h)) t (entry ys) sorted m o)) (chosen o)))
              (le_cases 1 (argument_of q.base.entries t))
