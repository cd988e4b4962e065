-- The small-model theorem: a heap that meets a query has one of at most as many nodes as the query has terms (one, if it has none). Its
-- nodes are those that the terms name, and its links, each by itself, are hops from one such node to the next.
use Prim.Native.Nat.{ℕ, zero, suc, ◌-◌, ◌≤◌}
use native.Mathlib.Omega.{arith}
use mathlib.Core.Path.{◌≡◌, refl, sym, ap, ◌∙◌, subst, subst₂}
use mathlib.Core.Logic.{◌↔◌, ⊎_elim}
use mathlib.Core.Bool.{Bool, true, false, cond}
use mathlib.Core.List.Memᴰ
use mathlib.Core.List.{List, [], ◌∷◌, Memᴰ}
use lib.ListN.{length, get_or}
use lib.Dec.{eqb}
use Rattle.logic.specs.Search.{any, from}
use Rattle.logic.specs.Query.{Query, names_nil, argument_of, link_of, term_count}
use Rattle.logic.specs.Heap.{Heap, Node, IsHeap, iterate, Reaches, NilNode, value}
use Rattle.logic.specs.Shown.{place_of}
use Rattle.theory.proofs.Basics.Search.{any-true, any_intro}
use Rattle.theory.proofs.Basics.Compare.{eqb-true, eqb_self, le_cases, cond-true}
use Rattle.theory.proofs.Graph.Orbit.{reaches_keeps}
use Rattle.theory.proofs.Graph.Cycles.{Within}
use Rattle.theory.proofs.Query.Tied.{Accepted}
use Rattle.theory.proofs.Query.Entries.{nil_range}
use Rattle.theory.proofs.Soundness.Value.{accepted_below, value-variable, value-link, value_node, signed_same}
use Rattle.theory.proofs.Completeness.Placed.{place_of-mem, place_of_range, place_of_injective, length_from}
use Rattle.theory.proofs.Basics.Count.{get_d_mem}
use Rattle.between.specs.Meaning.{BetweenLiteral, BetweenQuery, Between, MeetsBetween}
use Rattle.between.proofs.Until.{Until, here, on, Nothing, reaches_until, between_until}
use Rattle.between.proofs.Firsts.{firsts, firsts_has, firsts_all, firsts_short}
use Rattle.between.proofs.FirstVisit.{First, found, hop, hop_first, hop-chosen, links_hops, hops_links}

-- Following f and f' alike, where e carries one to the other and makes no two of the nodes S one.
module _ (f f' e : ℕ → ℕ) (S : ℕ → Type 0) (stays : (v : ℕ) → S v → S (f v)) (carries : (v : ℕ) → S v → f' (e v) ≡ e (f v)) (Avoid Avoid' : ℕ → Type 0) where
  pub carried : ((v : ℕ) → S v → Avoid' (e v) → Avoid v) → (v y : ℕ) → S v → Until f Avoid v y → Until f' Avoid' (e v) (e y)
  carried back v y i here = here
  carried back v y i (on a u) = on (λ a'. a (back v i a')) (subst (λ (x : ℕ). Until f' Avoid' x (e y)) (sym (carries v i)) (carried back (f v) y (stays v i) u))

  pub brought_back : ((v : ℕ) → S v → Avoid v → Avoid' (e v)) → ((v w : ℕ) → S v → S w → e v ≡ e w → v ≡ w) → (x z v y : ℕ) → S v → S y → x ≡ e v → z ≡ e y → Until f' Avoid' x z → Until f Avoid v y
  brought_back forth one x z v y i j p q here = subst (Until f Avoid v) (one v y i j (sym p ∙ q)) here
  brought_back forth one x z v y i j p q (on a u) =
      on (λ b. a (subst Avoid' (sym p) (forth v i b))) (brought_back forth one (f' x) z (f v) y (stays v i) j (ap f' p ∙ carries v i) q u)

-- a list, or a list of 1 where there is nothing in it
unfoldable pub or_one : List ℕ → List ℕ
or_one [] = 1 ∷ []
or_one (x ∷ xs) = x ∷ xs

or_one_keeps : (xs : List ℕ) (x : ℕ) → Memᴰ x xs → Memᴰ x (or_one xs)
unfolding or_one
or_one_keeps [] x m = elim m [ ]
or_one_keeps (y ∷ ys) x m = m

or_one-all : (P : ℕ → Type 0) → P 1 → (xs : List ℕ) → ((x : ℕ) → Memᴰ x xs → P x) → (x : ℕ) → Memᴰ x (or_one xs) → P x
unfolding or_one
or_one-all P one [] all x m = subst P (sym (Memᴰ.eq_of_singleton m)) one
or_one-all P one (y ∷ ys) all x m = all x m

or_one-some : (xs : List ℕ) → 1 ≤ length (or_one xs)
unfolding or_one
or_one-some [] = omega arith
or_one-some (x ∷ xs) = omega arith

-- what the theory needs to know of a query with between literals
pub record AcceptedBetween (q : BetweenQuery) : Type 0 where
  pub base : Accepted q.base
  pub between_terms : (l : BetweenLiteral) → Memᴰ l q.betweens → ((1 ≤ l.from) × (l.from ≤ term_count q.base))
      × ((1 ≤ l.middle) × (l.middle ≤ term_count q.base)) × ((1 ≤ l.to) × (l.to ≤ term_count q.base))

module _ (q : Query) (ok : Accepted q) (h : Heap) (is : IsHeap h) where
  abbrev val : ℕ → ℕ
  val = value h q.entries

  -- the nodes that the terms name
  pub named : List ℕ
  named = or_one (firsts val (term_count q))

  chosen : ℕ → Bool
  chosen v = any (eqb v) named

  chosen-mem : (v : ℕ) → chosen v ≡ true → Memᴰ v named
  unfolding chosen
  chosen-mem v c = let r = any-true (eqb v) named c in subst (λ (x : ℕ). Memᴰ x named) (sym (eqb-true v r.0 r.2)) r.1

  mem-chosen : (v : ℕ) → Memᴰ v named → chosen v ≡ true
  unfolding chosen
  mem-chosen v m = any_intro (eqb v) v m (eqb_self v)

  named_node : (v : ℕ) → Memᴰ v named → Node h v
  unfolding named
  named_node v m =
      or_one-all (Node h) (omega arith, is.nonempty) (firsts val (term_count q))
      (firsts_all val (Node h) (term_count q) (λ u a b. value_node h q.entries is u)) v m

  term_named : (t : ℕ) → (1 ≤ t) × (t ≤ term_count q) → Memᴰ (val t) named
  unfolding named
  term_named t r = or_one_keeps (firsts val (term_count q)) (val t) (firsts_has val (term_count q) t r.0 r.1)

  abbrev place : ℕ → ℕ
  place v = place_of v named

  -- the node at a place, from 1
  abbrev at : ℕ → ℕ
  at i = get_or named (i - 1) 0

  at_place : (v : ℕ) → Memᴰ v named → at (place v) ≡ v
  at_place v m = let r = place_of-mem v m in ap (λ (i : ℕ). get_or named i 0) (let e = r.placed in omega arith) ∙ r.element

  abbrev hops : ℕ → ℕ → ℕ
  hops k = hop (h.link k) chosen h.size

  pub small : Heap
  small =
      record {
        size = length named;
        link = λ k i. place (hops k (at i));
        field = λ j i. h.field j (at i);
        variable = λ t. cond (chosen (val t)) (place (val t)) 1;
      }

  inside : (k v : ℕ) → Node h v → (1 ≤ h.link k v) × (h.link k v ≤ h.size)
  inside k v n = is.link_node k v n

  -- all that is followed in the heap is a node of it
  followed : (k v : ℕ) → Node h v → Within (h.link k) h.size v
  unfolding Reaches
  followed k v n i l = reaches_keeps (h.link k) (Node h) (λ w m. is.link_node k w m) v (iterate (h.link k) i v) (iterated i v) n
    where
      iterated : (i v : ℕ) → Reaches (h.link k) v (iterate (h.link k) i v)
      iterated i v = (i, refl)

  hops-named : (k v : ℕ) → Memᴰ v named → Memᴰ (hops k v) named
  hops-named k v m =
      chosen-mem (hops k v) (hop-chosen (h.link k) chosen h.size v (followed k (h.link k v) (is.link_node k v (named_node v m))) (mem-chosen v m))

  link-place : (k v : ℕ) → Memᴰ v named → small.link k (place v) ≡ place (hops k v)
  unfolding small
  link-place k v m = ap (λ (w : ℕ). place (hops k w)) (at_place v m)

  some-named : 1 ≤ length named
  unfolding named
  some-named = or_one-some (firsts val (term_count q))

  variable-place : (t : ℕ) → (1 ≤ t) × (t ≤ term_count q) → small.variable t ≡ place (val t)
  unfolding small
  variable-place t r = cond-true (place (val t)) 1 (mem-chosen (val t) (term_named t r))

  -- f of a term: the hop from what the term names is its own link
  linked : (t : ℕ) → (1 ≤ t) × (t ≤ term_count q) → 1 ≤ argument_of q.entries t →
      value small q.entries (argument_of q.entries t) ≡ place (val (argument_of q.entries t)) → value small q.entries t ≡ place (val t)
  linked t r one ih =
      let below = accepted_below q ok in
      let e : ℕ = argument_of q.entries t in
      let b = below t one in
      let m = term_named e (one, omega arith) in
      let v = value-link h q.entries below t one in
      let k : ℕ = link_of q.entries t in
      let first : First (h.link k) chosen (h.link k (val e)) (val t) = subst (λ (x : ℕ). First (h.link k) chosen x (val t)) v (found (mem-chosen (val t) (term_named t r))) in
      value-link small q.entries below t one ∙ ap (small.link k) ih ∙ link-place k (val e) m
      ∙ ap place (hop_first (h.link k) chosen h.size (val e) (val t) (followed k (h.link k (val e)) (is.link_node k (val e) (named_node (val e) m))) first)

  pub small_is : IsHeap small
  unfolding small
  small_is =
      record {
        nonempty = some-named;
        link_node = λ k i n. place_of_range (hops k (at i)) (hops-named k (at i) (get_d_mem named (i - 1) 0 (omega arith)));
        variable_node = λ t. go t (chosen (val t)) refl;
      }
    where
      go : (t : ℕ) (b : Bool) → chosen (val t) ≡ b → Node small (cond b (place (val t)) 1)
      go t true c = place_of_range (val t) (chosen-mem (val t) c)
      go t false c = (omega arith, some-named)

  -- a term's node is the place of the node that it named
  pub small-value : (t : ℕ) → (1 ≤ t) × (t ≤ term_count q) → value small q.entries t ≡ place (val t)
  small-value t r = go t t r (omega arith)
    where
      go : (k t : ℕ) → (1 ≤ t) × (t ≤ term_count q) → t ≤ k → value small q.entries t ≡ place (val t)
      go zero t r l = absurd (omega arith)
      go (suc k) t r l =
          ⊎_elim
          (λ one. let b = accepted_below q ok t one in
          let e : ℕ = argument_of q.entries t in
          linked t r one (go k e (one, omega arith) (omega arith)))
          (λ none. let z : argument_of q.entries t ≡ 0 = omega arith in value-variable small q.entries t z ∙ variable-place t r)
          (le_cases 1 (argument_of q.entries t))

  -- nil's node is named, so that its own link stays
  nil_in : (t : ℕ) → names_nil q.entries t ≡ true → (1 ≤ t) × (t ≤ term_count q)
  unfolding term_count
  nil_in t e = nil_range q.entries t e

  small-nil : NilNode h q.entries → NilNode small q.entries
  small-nil nil =
      record {
        one_node' = λ t u a b. small-value t (nil_in t a) ∙ ap place (nil.one_node' t u a b) ∙ sym (small-value u (nil_in u b));
        own_link = λ k t a.
            let r = nil_in t a in
            let m = term_named t r in
            let first : First (h.link k) chosen (h.link k (val t)) (val t) = subst (λ (x : ℕ). First (h.link k) chosen x (val t)) (sym (nil.own_link k t a)) (found (mem-chosen (val t) m)) in
            ap (small.link k) (small-value t r) ∙ link-place k (val t) m
            ∙ ap place (hop_first (h.link k) chosen h.size (val t) (val t) (followed k (h.link k (val t)) (is.link_node k (val t) (named_node (val t) m))) first)
            ∙ sym (small-value t r);
      }

  -- Until in the heap and in the small one, by link i
  module _ (i : ℕ) (Avoid Avoid' : ℕ → Type 0) (only : (v : ℕ) → Avoid v → Memᴰ v named)
      (forth : (v : ℕ) → Memᴰ v named → Avoid v → Avoid' (place v)) (back : (v : ℕ) → Memᴰ v named → Avoid' (place v) → Avoid v) where
    small_until : (v y : ℕ) → Memᴰ v named → Memᴰ y named → Until (h.link i) Avoid v y ↔ Until (small.link i) Avoid' (place v) (place y)
    small_until v y m k = (
      λ u. carried (hops i) (small.link i) place (λ w. Memᴰ w named) (hops-named i) (link-place i) Avoid Avoid' back v y m
          (links_hops (h.link i) chosen h.size (inside i) Avoid (λ w a. mem-chosen w (only w a)) v y v (named_node v m) (mem-chosen y k) u (found (mem-chosen v m))),
      λ u. hops_links (h.link i) chosen h.size (inside i) Avoid (λ w a. mem-chosen w (only w a)) (named_node v m)
          (brought_back (hops i) (small.link i) place (λ w. Memᴰ w named) (hops-named i) (link-place i) Avoid Avoid' forth
          (λ a b m n e. place_of_injective a b m n e) (place v) (place y) v y m k refl refl u),
    )

  -- What the literals say of terms is the same in both heaps
  module _ (a b : ℕ) (ra : (1 ≤ a) × (a ≤ term_count q)) (rb : (1 ≤ b) × (b ≤ term_count q)) where
    abbrev sval : ℕ → ℕ
    sval = value small q.entries

    same_equal : (val a ≡ val b) ↔ (sval a ≡ sval b)
    same_equal = (
      λ e. small-value a ra ∙ ap place e ∙ sym (small-value b rb),
      λ e. place_of_injective (val a) (val b) (term_named a ra) (term_named b rb) (sym (small-value a ra) ∙ e ∙ small-value b rb),
    )

    -- until, between the nodes that terms name
    term_until : (i : ℕ) (Avoid Avoid' : ℕ → Type 0) → ((v : ℕ) → Avoid v → Memᴰ v named) →
        ((v : ℕ) → Memᴰ v named → Avoid v → Avoid' (place v)) → ((v : ℕ) → Memᴰ v named → Avoid' (place v) → Avoid v) →
        Until (h.link i) Avoid (val a) (val b) ↔ Until (small.link i) Avoid' (sval a) (sval b)
    term_until i Avoid Avoid' only forth back =
        let u = small_until i Avoid Avoid' only forth back (val a) (val b) (term_named a ra) (term_named b rb) in
        let p = small-value a ra in
        let r = small-value b rb in
        (λ x. subst₂ (Until (small.link i) Avoid') (sym p) (sym r) (u.0 x), λ x. u.1 (subst₂ (Until (small.link i) Avoid') p r x))

    pub any_until : (i : ℕ) → Until (h.link i) Nothing (val a) (val b) ↔ Until (small.link i) Nothing (sval a) (sval b)
    any_until i = term_until i Nothing Nothing (λ v e. absurd e) (λ v m e. e) (λ v m e. e)

    pub same-reach : (i : ℕ) → Reaches (h.link i) (val a) (val b) ↔ Reaches (small.link i) (sval a) (sval b)
    same-reach i = (
      λ r. (reaches_until (small.link i) (sval a) (sval b)).1 ((any_until i).0 ((reaches_until (h.link i) (val a) (val b)).0 r)),
      λ r. (reaches_until (h.link i) (val a) (val b)).1 ((any_until i).1 ((reaches_until (small.link i) (sval a) (sval b)).0 r)),
    )

    module _ (c : ℕ) (rc : (1 ≤ c) × (c ≤ term_count q)) where
      before_until : (i : ℕ) → Until (h.link i) (λ v. v ≡ val c) (val a) (val b) ↔ Until (small.link i) (λ v. v ≡ sval c) (sval a) (sval b)
      before_until i =
          term_until i (λ v. v ≡ val c) (λ v. v ≡ sval c)
          (λ v e. subst (λ (x : ℕ). Memᴰ x named) (sym e) (term_named c rc))
          (λ v m e. ap place e ∙ sym (small-value c rc))
          (λ v m e. place_of_injective v (val c) m (term_named c rc) (e ∙ small-value c rc))

  same_between : (i a b c : ℕ) → (1 ≤ a) × (a ≤ term_count q) → (1 ≤ b) × (b ≤ term_count q) → (1 ≤ c) × (c ≤ term_count q) →
      Between (h.link i) (val a) (val b) (val c) ↔ Between (small.link i) (value small q.entries a) (value small q.entries b) (value small q.entries c)
  same_between i a b c ra rb rc =
      let u = before_until a b ra rb c rc i in
      let r = any_until a c ra rc i in
      let old = between_until (h.link i) (val a) (val b) (val c) in
      let new = between_until (small.link i) (value small q.entries a) (value small q.entries b) (value small q.entries c) in
      (λ x. let y = old.0 x in new.1 (u.0 y.0, r.0 y.1), λ x. let y = new.0 x in old.1 (u.1 y.0, r.1 y.1))

  same_field : (j t : ℕ) → (1 ≤ t) × (t ≤ term_count q) → small.field j (value small q.entries t) ≡ h.field j (val t)
  unfolding small
  same_field j t r = ap (λ (i : ℕ). h.field j (at i)) (small-value t r) ∙ ap (h.field j) (at_place (val t) (term_named t r))

  pub small-named : named ≡ or_one (firsts val (term_count q))
  unfolding named
  small-named = refl

  pub small_size : small.size ≡ length (or_one (firsts val (term_count q)))
  unfolding small named
  small_size = refl

same_test : {b c : Bool} → c ≡ b → (b ≡ true) ↔ (c ≡ true)
same_test e = (λ p. e ∙ p, λ p. sym e ∙ p)

-- a heap that meets the query has one on the nodes that the terms name
pub small-meets : (q : BetweenQuery) (ok : AcceptedBetween q) (h : Heap) (m : MeetsBetween h q) → MeetsBetween (small q.base ok.base h m.meets.is_heap) q
small-meets q ok h m =
    let b : Query = q.base in
    let acc = ok.base in
    let is = m.meets.is_heap in
    record {
      meets = record {
        is_heap = small_is b acc h is;
        nil_node = small-nil b acc h is m.meets.nil_node;
        equalities = λ l k. let r = acc.equal_terms l k in signed_same l.plain (same_equal b acc h is l.left l.right r.0 r.1) (m.meets.equalities l k);
        reachability = λ l k. let r = acc.reach_terms l k in signed_same l.plain (same-reach b acc h is l.left l.right r.0 r.1 l.link) (m.meets.reachability l k);
        fields = λ l k. signed_same l.plain (same_test (same_field b acc h is l.left l.right (acc.field_term l k))) (m.meets.fields l k);
      };
      betweens = λ l k. let r = ok.between_terms l k in signed_same l.plain (same_between b acc h is 1 l.from l.middle l.to r.0 r.1 r.2) (m.betweens l k);
    }

-- THE SMALL-MODEL THEOREM: a query that some finite heap meets is met by one of no more nodes than it has terms, or of one node if it has
-- none.
abbrev pub nodes_for : ℕ → ℕ
nodes_for n = length (or_one (from n 1))

or_one_short : (xs : List ℕ) (n : ℕ) → length xs ≤ n → length (or_one xs) ≤ nodes_for n
unfolding or_one from
or_one_short [] zero h = omega arith
or_one_short [] (suc n) h = omega arith
or_one_short (x ∷ xs) zero h = absurd (omega arith)
or_one_short (x ∷ xs) (suc n) h = omega (arith, length_from n 2)

pub small_model : (q : BetweenQuery) → AcceptedBetween q → (h : Heap) → MeetsBetween h q → (h' : Heap) × MeetsBetween h' q × (h'.size ≤ nodes_for (term_count q.base))
small_model q ok h m =
    let s : Heap = small q.base ok.base h m.meets.is_heap in (
      s,
      small-meets q ok h m,
      subst (λ (k : ℕ). k ≤ nodes_for (term_count q.base)) (sym (small_size q.base ok.base h m.meets.is_heap))
          (or_one_short (firsts (value h q.base.entries) (term_count q.base)) (term_count q.base) (firsts_short (value h q.base.entries) (term_count q.base))),
    )
