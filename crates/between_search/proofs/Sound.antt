-- What is found meets the query: a heap with these links, in which the terms name these nodes.
use Prim.Native.Nat.{ℕ, zero, suc, ◌+◌, ◌-◌, ◌≤◌}
use native.Mathlib.Omega.{arith}
use mathlib.Core.Path.{◌≡◌, refl, sym, ap, ◌∙◌, subst}
use mathlib.Core.Logic.{⊎_elim}
use mathlib.Core.Bool.{Bool, true, false, not, cond, ◌&&◌}
use mathlib.Core.List.{List, [], ◌∷◌, ◌++◌, Memᴰ}
use lib.Dec.{eqb, ltb}
use Rattle.logic.specs.Search.{any}
use Rattle.logic.specs.Query.{Literal, argument_of, term_count}
use Rattle.logic.specs.Heap.{Heap, IsHeap, Signed, value}
use Rattle.theory.proofs.Basics.Search.{not-true, any_false, neither}
use Rattle.theory.proofs.Basics.Compare.{eqb_intro, eqb-false, le_cases, cond-true, cond-false, ltb-true}
use Rattle.theory.proofs.Query.Entries.{nil_range}
use Rattle.theory.proofs.Soundness.Value.{accepted_below, value-variable}
use Rattle.between.specs.Meaning.{BetweenQuery, MeetsBetween}
use Rattle.between_search.specs.Tests.{used, breaks, nil_breaks, field_breaks, pair_breaks, triple_breaks}
use Rattle.between_search.specs.Search.{entry, lowest_node, highest_node}
use Rattle.between_search.proofs.Seek.{Grown}
use Rattle.between_search.proofs.Growing.{prefix_next, Met, grown_met}
use Rattle.between_search.proofs.Due.{second_of}
use Rattle.between_search.proofs.OneLink.{AcceptedSix, reach_one, value_one}
use Rattle.between_search.proofs.Alike.{breaks_alike}
use Rattle.between_search.proofs.Tested.{equal_met, reach_met, between_met, nil_rule, fields-met}

-- the bounds of a term's node
module _ (q : BetweenQuery) (link : ℕ → ℕ) (t : ℕ) (node : ℕ → ℕ) where
  pub low_any : argument_of q.base.entries t ≡ 0 → lowest_node q link t node ≡ 1
  unfolding lowest_node
  low_any e = cond-true _ _ (eqb_intro e)

  pub low-link : 1 ≤ argument_of q.base.entries t → lowest_node q link t node ≡ link (node (argument_of q.base.entries t))
  unfolding lowest_node
  low-link l = cond-false _ _ (eqb-false (argument_of q.base.entries t) 0 (omega arith))

  module _ (sorted : Bool) (m : ℕ) where
    pub high-any : argument_of q.base.entries t ≡ 0 → highest_node q sorted m link t node ≡ cond (sorted && ltb (used node (t - 1) + 1) m) (used node (t - 1) + 1) m
    unfolding highest_node
    high-any e = cond-true _ _ (eqb_intro e)

    pub high_most : argument_of q.base.entries t ≡ 0 → highest_node q sorted m link t node ≤ m
    high_most e = subst (λ (x : ℕ). x ≤ m) (sym (high-any e)) (go (sorted && ltb (used node (t - 1) + 1) m) refl)
      where
        go : (b : Bool) → sorted && ltb (used node (t - 1) + 1) m ≡ b → cond b (used node (t - 1) + 1) m ≤ m
        go true h = let l = ltb-true (used node (t - 1) + 1) m (second_of sorted (ltb (used node (t - 1) + 1) m) h) in omega arith
        go false h = omega arith

    pub high-link : 1 ≤ argument_of q.base.entries t → highest_node q sorted m link t node ≡ link (node (argument_of q.base.entries t))
    unfolding highest_node
    high-link l = cond-false _ _ (eqb-false (argument_of q.base.entries t) 0 (omega arith))

module _ (q : BetweenQuery) (ok : AcceptedSix q) (sorted : Bool) (m : ℕ) (ls ns : List ℕ) where
  abbrev n : ℕ
  n = term_count q.base

  abbrev low : ℕ → List ℕ → ℕ
  low t xs = lowest_node q (entry ls) t (entry xs)

  abbrev high : ℕ → List ℕ → ℕ
  high t xs = highest_node q sorted m (entry ls) t (entry xs)

  abbrev fits : ℕ → List ℕ → Bool
  fits t xs = not (breaks q m (entry ls) (entry xs) n t)

  module _ (gl : Grown (λ j xs. 1) (λ j xs. m) (λ j xs. true) m 1 (m ∷ []) ls) (gn : Grown low high fits n 1 (n ∷ []) ns) where
    pub links_in : (v : ℕ) → (1 ≤ v) × (v ≤ m) → (1 ≤ entry ls v) × (entry ls v ≤ m)
    links_in v r = let e = grown_met (λ j xs. 1) (λ j xs. m) (λ j xs. true) gl refl v r.0 (omega arith) in (e.low, e.high)

    node_met : (t : ℕ) → 1 ≤ t → t ≤ n → Met low high fits ns t
    node_met t a b = grown_met low high fits gn refl t a (omega arith)

    -- f of a term names the node that its link leads to
    pub node-link : (t : ℕ) → 1 ≤ t → t ≤ n → 1 ≤ argument_of q.base.entries t → entry ns t ≡ entry ls (entry ns (argument_of q.base.entries t))
    node-link t a b l =
        let e = node_met t a b in
        let k = accepted_below q.base ok.accepted.base t l in
        let p = low-link q (entry ls) t (entry e.before) l in
        let h = high-link q (entry ls) t (entry e.before) sorted m l in
        let w : entry ls (entry e.before (argument_of q.base.entries t)) ≡ entry ls (entry ns (argument_of q.base.entries t)) = ap (entry ls)
        (e.prefix.each (argument_of q.base.entries t) l k) in
        omega (arith, e.low, e.high, p, h, w)

    pub nodes_in : (t : ℕ) → 1 ≤ t → t ≤ n → (1 ≤ entry ns t) × (entry ns t ≤ m)
    nodes_in t a b = go t t a b (omega arith)
      where
        go : (k t : ℕ) → 1 ≤ t → t ≤ n → t ≤ k → (1 ≤ entry ns t) × (entry ns t ≤ m)
        go zero t a b c = absurd (omega arith)
        go (suc k) t a b c =
            ⊎_elim
            (λ l. let s = accepted_below q.base ok.accepted.base t l in
            let r = links_in (entry ns (argument_of q.base.entries t)) (go k (argument_of q.base.entries t) l (omega arith) (omega arith)) in
            let e = node-link t a b l in (omega (arith, r.0, e), omega (arith, r.1, e)))
            (λ z. let e = node_met t a b in
            let o : argument_of q.base.entries t ≡ 0 = omega arith in
            let p = low_any q (entry ls) t (entry e.before) o in
            let h = high_most q (entry ls) t (entry e.before) sorted m o in
            (omega (arith, e.low, p), omega (arith, e.high, h)))
            (le_cases 1 (argument_of q.base.entries t))

    pub passes : (t : ℕ) → 1 ≤ t → t ≤ n → breaks q m (entry ls) (entry ns) n t ≡ false
    passes t a b =
        let e = node_met t a b in
        let p = prefix_next (entry ns) e.before t e.prefix in
        breaks_alike q ok.accepted m (entry ls) (entry ls) links_in (λ v r. refl) t a (entry ns) (entry (e.before ++ (entry ns t ∷ [])))
        (λ u x y. sym (p.each u x (omega arith))) (λ u x y. nodes_in u x (omega arith)) n
        ∙ not-true e.fitted

    -- a heap that is so
    module _ (nonempty : 1 ≤ m) (few : m ≤ 5) (h : Heap) (is : IsHeap h) (size : h.size ≡ m)
        (linked : (v : ℕ) → (1 ≤ v) × (v ≤ m) → h.link 1 v ≡ entry ls v) (loops : (i v : ℕ) → (i ≡ 1 → ⊥) → h.link i v ≡ v)
        (named : (t : ℕ) → 1 ≤ t → t ≤ n → h.variable t ≡ entry ns t) where
      abbrev val : ℕ → ℕ
      val = value h q.base.entries

      pub value-is : (t : ℕ) → 1 ≤ t → t ≤ n → val t ≡ entry ns t
      value-is t a b = go t t a b (omega arith)
        where
          go : (k t : ℕ) → 1 ≤ t → t ≤ n → t ≤ k → val t ≡ entry ns t
          go zero t a b c = absurd (omega arith)
          go (suc k) t a b c =
              ⊎_elim
              (λ l. let below = accepted_below q.base ok.accepted.base in
              let s = below t l in
              let i = go k (argument_of q.base.entries t) l (omega arith) (omega arith) in
              value_one q ok h t l ∙ ap (h.link 1) i ∙ linked (entry ns (argument_of q.base.entries t)) (nodes_in (argument_of q.base.entries t) l (omega arith)) ∙ sym (node-link t a b l))
              (λ z. value-variable h q.base.entries t (omega arith) ∙ named t a b)
              (le_cases 1 (argument_of q.base.entries t))

      -- the tests pass in the heap
      passed : (t : ℕ) → 1 ≤ t → t ≤ n → breaks q m (h.link 1) val n t ≡ false
      passed t a b =
          sym (breaks_alike q ok.accepted m (entry ls) (h.link 1) links_in (λ v r. sym (linked v r)) t a (entry ns) val
          (λ u x y. sym (value-is u x (omega arith))) (λ u x y. nodes_in u x (omega arith)) n)
          ∙ passes t a b

      record Apart (t : ℕ) : Type 0 where
        nil : nil_breaks q.base.entries (h.link 1) val t ≡ false
        field : field_breaks q.base.fields val t ≡ false
        equal : any (pair_breaks (h.link 1) val 0 t) q.base.equalities ≡ false
        reach : any (pair_breaks (h.link 1) val 5 t) q.base.reachability ≡ false
        between : any (triple_breaks (h.link 1) val t) q.betweens ≡ false

      apart : (t : ℕ) → 1 ≤ t → t ≤ n → Apart t
      unfolding breaks
      apart t a b =
          let x = neither _ _ (passed t a b) in
          let y = neither _ _ x.1 in
          let z = neither _ _ y.1 in
          let w = neither _ _ z.1 in
          let u = neither _ _ w.1 in
          record { nil = y.0; field = z.0; equal = w.0; reach = u.0; between = u.1 }

      abbrev small : h.size ≤ 5
      small = subst (λ (k : ℕ). k ≤ 5) (sym size) few

      pub found_meets : ((j v : ℕ) → (1 ≤ j) × (j ≤ 8) → (1 ≤ v) × (v ≤ m) → h.field j v ≡ any (λ k. k.plain && eqb k.left j && eqb (entry ns k.right) v) q.base.fields) → MeetsBetween h q
      unfolding term_count breaks
      found_meets fields =
          record {
            meets = record {
              is_heap = is;
              nil_node = nil_rule h is small q.base.entries n loops (λ t e. nil_range q.base.entries t e) (λ t a b. (apart t a b).nil);
              equalities = λ l k. let r = ok.accepted.base.equal_terms l k in (equal_met h is small q.base.entries n l r.0 r.1).1 (λ t a b. any_false _ l (apart t a b).equal k);
              reachability = λ l k. let r = ok.accepted.base.reach_terms l k in
                  (reach_met h is small q.base.entries n l (reach_one q ok l k) r.0 r.1).1 (λ t a b. any_false _ l (apart t a b).reach k);
              fields = λ l k. field_met l k;
            };
            betweens = λ l k. let r = ok.accepted.between_terms l k in (between_met h is small q.base.entries n l r.0 r.1 r.2).1 (λ t a b. any_false _ l (apart t a b).between k);
          }
        where
          field_met : (l : Literal) → Memᴰ l q.base.fields → Signed l.plain (h.field l.left (val l.right) ≡ true)
          field_met l k =
              let r = ok.accepted.base.field_term l k in
              let e = value-is l.right r.0 r.1 in
              let breaking : (t : ℕ) → 1 ≤ t → t ≤ n → field_breaks q.base.fields (entry ns) t ≡ false = λ t a b. (neither _ _ (neither _ _ (neither _ _ (passes t a b)).1).1).0 in
              subst (λ (b : Bool). Signed l.plain (b ≡ true))
              (sym (ap (h.field l.left) e ∙ fields l.left (entry ns l.right) (ok.accepted.base.field_number l k) (nodes_in l.right r.0 r.1)))
              (fields-met q.base.fields ok.accepted.base.field_number (entry ns) n (λ b i. ok.accepted.base.field_term b i) breaking l k)
