-- A heap of the joined query is one heap that meets both queries, with the pairs and the nil terms equal, and the other way round.
-- Assumes nothing.
use Prim.Native.Nat.{ℕ, zero, suc, ◌+◌, ◌-◌, ◌≤◌, ◌<◌}
use native.Mathlib.Omega.{arith}
use native.Mathlib.Nat.{zero-add}
use mathlib.Core.Path.{◌≡◌, refl, sym, ap, ap₂, ◌∙◌, subst, subst₂}
use mathlib.Core.Logic.{◌⊎◌, inl, inr, ⊎_elim}
use mathlib.Core.Bool.{Bool, true, false, cond}
use mathlib.Core.List.Memᴰ
use mathlib.Core.List.{List, map, Memᴰ}
use lib.Dec.{leb}
use borrow.Author.Tests.{le-leb, lt-leb}
use Rattle.logic.specs.Query.{Literal, Entries, Query, term_count, names_nil, argument_of, link_of}
use Rattle.logic.specs.Heap.{Heap, Node, IsHeap, value, Reaches, Signed, MeansEqual, MeansReach, MeansField, Each, Meets, Satisfiable}
use Rattle.theory.proofs.Basics.Search.{map-mem, map_intro}
use Rattle.theory.proofs.Basics.Compare.{le_cases}
use Rattle.theory.proofs.Query.Tied.{InTerms}
use Rattle.theory.proofs.Query.Entries.{nil_range}
use Rattle.theory.proofs.Soundness.Value.{Below, accepted_below, value-variable, value-link}
use Rattle.joining.specs.Pairs.{Pair}
use Rattle.joining.specs.Joined.{raised, pair_literal, joined}
use Rattle.joining.specs.Heaps.{naming, OneHeap}
use Rattle.joining.proofs.Terms.{Among, whose}
use Rattle.encoding.proofs.Encoded.{Encodable}
use Rattle.joining.proofs.Counts.{count_terms}
use Rattle.joining.proofs.Accepted.{Paired, of_first_lem, of_second_lem, joined_accepted}

-- Terms of a part of the entries have the same values among all of them, where variables are named alike.
module _ (h : Heap) (v w : ℕ → ℕ) (g : ℕ → ℕ) (all own : Entries) (m : ℕ) (among : Among g all own m) (positive : (t : ℕ) → 1 ≤ t → 1 ≤ g t)
    (all-below : Below all) (own_below : Below own) (named : (t : ℕ) → 1 ≤ t → t ≤ m → v (g t) ≡ w t) where
  value-within : (fuel t : ℕ) → t < fuel → 1 ≤ t → t ≤ m → value (naming h v) all (g t) ≡ value (naming h w) own t
  unfolding naming
  value-within zero t f l u = absurd (omega arith)
  value-within (suc fuel) t f l u =
      ⊎_elim
      (λ one.
      let below = own_below t one in
      let moves = among.argument t l u one in
      let some = positive (argument_of own t) one in
      value-link (naming h v) all all-below (g t) (omega arith)
      ∙ ap₂ (λ (i k : ℕ). h.link i (value (naming h v) all k)) (among.link t) moves
      ∙ ap (h.link (link_of own t)) (value-within fuel (argument_of own t) (omega arith) one (omega arith))
      ∙ sym (value-link (naming h w) own own_below t one))
      (λ none.
      let z : argument_of own t ≡ 0 = omega arith in
      value-variable (naming h v) all (g t) (among.no_argument t l u z) ∙ named t l u ∙ sym (value-variable (naming h w) own t z))
      (le_cases 1 (argument_of own t))

  pub value_among : (t : ℕ) → (1 ≤ t) × (t ≤ m) → value (naming h v) all (g t) ≡ value (naming h w) own t
  value_among t r = value-within (suc t) t (omega arith) r.0 r.1

  -- what is said of the values of two terms, in the whole and in the part
  pub outwards : (P : ℕ → ℕ → Type 0) (b : Bool) (x y : ℕ) → (1 ≤ x) × (x ≤ m) → (1 ≤ y) × (y ≤ m) →
      Signed b (P (value (naming h v) all (g x)) (value (naming h v) all (g y))) → Signed b (P (value (naming h w) own x) (value (naming h w) own y))
  outwards P b x y i j = subst₂ (λ s t. Signed b (P s t)) (value_among x i) (value_among y j)

  pub inwards : (P : ℕ → ℕ → Type 0) (b : Bool) (x y : ℕ) → (1 ≤ x) × (x ≤ m) → (1 ≤ y) × (y ≤ m) →
      Signed b (P (value (naming h w) own x) (value (naming h w) own y)) → Signed b (P (value (naming h v) all (g x)) (value (naming h v) all (g y)))
  inwards P b x y i j = subst₂ (λ s t. Signed b (P s t)) (sym (value_among x i)) (sym (value_among y j))

module _ (a b : Query) (ps : List Pair) (first : Encodable a) (second : Encodable b) (paired : (p : Pair) → Memᴰ p ps → Paired a b p) (small : term_count (joined a b ps) ≤ 16) where
  abbrev n : ℕ
  n = term_count a

  abbrev whole : Entries
  whole = (joined a b ps).entries

  whole_below : Below whole
  whole_below = accepted_below (joined a b ps) (joined_accepted a b ps first second paired small)

  -- one heap with its variables named for the whole, for the first and for the second
  module _ (h : Heap) (v w₁ w₂ : ℕ → ℕ) (named₁ : (t : ℕ) → 1 ≤ t → t ≤ term_count a → v t ≡ w₁ t) (named₂ : (t : ℕ) → 1 ≤ t → t ≤ term_count b → v (term_count a + t) ≡ w₂ t) where
    value₁ : (t : ℕ) → InTerms a t → value (naming h v) whole t ≡ value (naming h w₁) a.entries t
    value₁ = value_among h v w₁ (λ t. t) whole a.entries (term_count a) (of_first_lem a b ps first second paired small) (λ t l. l) whole_below (accepted_below a first.accepted) named₁

    value₂ : (t : ℕ) → InTerms b t → value (naming h v) whole (n + t) ≡ value (naming h w₂) b.entries t
    value₂ = value_among h v w₂ (λ t. n + t) whole b.entries (term_count b) (of_second_lem a b ps first second paired small) (λ t l. omega arith) whole_below (accepted_below b second.accepted) named₂

    out₁ : (P : ℕ → ℕ → Type 0) (c : Bool) (x y : ℕ) → InTerms a x → InTerms a y →
        Signed c (P (value (naming h v) whole x) (value (naming h v) whole y)) → Signed c (P (value (naming h w₁) a.entries x) (value (naming h w₁) a.entries y))
    out₁ = outwards h v w₁ (λ t. t) whole a.entries (term_count a) (of_first_lem a b ps first second paired small) (λ t l. l) whole_below (accepted_below a first.accepted) named₁

    in₁ : (P : ℕ → ℕ → Type 0) (c : Bool) (x y : ℕ) → InTerms a x → InTerms a y →
        Signed c (P (value (naming h w₁) a.entries x) (value (naming h w₁) a.entries y)) → Signed c (P (value (naming h v) whole x) (value (naming h v) whole y))
    in₁ = inwards h v w₁ (λ t. t) whole a.entries (term_count a) (of_first_lem a b ps first second paired small) (λ t l. l) whole_below (accepted_below a first.accepted) named₁

    out₂ : (P : ℕ → ℕ → Type 0) (c : Bool) (x y : ℕ) → InTerms b x → InTerms b y →
        Signed c (P (value (naming h v) whole (n + x)) (value (naming h v) whole (n + y))) →
        Signed c (P (value (naming h w₂) b.entries x) (value (naming h w₂) b.entries y))
    out₂ = outwards h v w₂ (λ t. n + t) whole b.entries (term_count b) (of_second_lem a b ps first second paired small) (λ t l. omega arith) whole_below (accepted_below b second.accepted) named₂

    in₂ : (P : ℕ → ℕ → Type 0) (c : Bool) (x y : ℕ) → InTerms b x → InTerms b y →
        Signed c (P (value (naming h w₂) b.entries x) (value (naming h w₂) b.entries y)) →
        Signed c (P (value (naming h v) whole (n + x)) (value (naming h v) whole (n + y)))
    in₂ = inwards h v w₂ (λ t. n + t) whole b.entries (term_count b) (of_second_lem a b ps first second paired small) (λ t l. omega arith) whole_below (accepted_below b second.accepted) named₂

    -- nil terms
    nil₁ : (t : ℕ) → InTerms a t → names_nil whole t ≡ names_nil a.entries t
    nil₁ t r = (of_first_lem a b ps first second paired small).nil_same t r.0 r.1

    nil₂ : (t : ℕ) → InTerms b t → names_nil whole (n + t) ≡ names_nil b.entries t
    nil₂ t r = (of_second_lem a b ps first second paired small).nil_same t r.0 r.1

    in_a : (t : ℕ) → names_nil a.entries t ≡ true → InTerms a t
    unfolding term_count
    in_a t e = nil_range a.entries t e

    in_b : (t : ℕ) → names_nil b.entries t ≡ true → InTerms b t
    unfolding term_count
    in_b t e = nil_range b.entries t e

    -- From the whole to the parts

    abbrev OnFields : ℕ → ℕ → ℕ → Type 0
    OnFields f x y = h.field f y ≡ true

    to_first : IsHeap (naming h w₁) → Meets (naming h v) (joined a b ps) → Meets (naming h w₁) a
    unfolding naming joined
    to_first is m =
        record {
          is_heap = is;
          nil_node =
              record {
                one_node' =
                    λ t u x y. out₁ (λ i j. i ≡ j) true t u (in_a t x) (in_a u y) (m.nil_node.one_node' t u (nil₁ t (in_a t x) ∙ x) (nil₁ u (in_a u y) ∙ y));
                own_link = λ k t x. out₁ (λ i j. h.link k i ≡ j) true t t (in_a t x) (in_a t x) (m.nil_node.own_link k t (nil₁ t (in_a t x) ∙ x));
              };
          equalities = λ l k. let r = first.accepted.equal_terms l k in out₁ (λ i j. i ≡ j) l.plain l.left l.right r.0 r.1 (m.equalities l (Memᴰ.append_left _ k));
          reachability = λ l k. let r = first.accepted.reach_terms l k in out₁ (Reaches (h.link l.link)) l.plain l.left l.right r.0 r.1 (m.reachability l (Memᴰ.append_left _ k));
          fields = λ l k. let r = first.accepted.field_term l k in out₁ (OnFields l.left) l.plain l.right l.right r r (m.fields l (Memᴰ.append_left _ k));
        }

    -- what a raised literal means
    raised-equal : (l : Literal) → MeansEqual (naming h v) whole (raised n n l) → Signed l.plain (value (naming h v) whole (n + l.left) ≡ value (naming h v) whole (n + l.right))
    unfolding raised
    raised-equal l e = e

    equal-raised : (l : Literal) → Signed l.plain (value (naming h v) whole (n + l.left) ≡ value (naming h v) whole (n + l.right)) → MeansEqual (naming h v) whole (raised n n l)
    unfolding raised
    equal-raised l e = e

    raised-reach : (l : Literal) → MeansReach (naming h v) whole (raised n n l) →
        Signed l.plain (Reaches (h.link l.link) (value (naming h v) whole (n + l.left)) (value (naming h v) whole (n + l.right)))
    unfolding raised naming
    raised-reach l e = e

    reach-raised : (l : Literal) → Signed l.plain
        (Reaches (h.link l.link) (value (naming h v) whole (n + l.left)) (value (naming h v) whole (n + l.right))) → MeansReach (naming h v) whole (raised n n l)
    unfolding raised naming
    reach-raised l e = e

    raised-field : (l : Literal) → MeansField (naming h v) whole (raised 0 n l) → Signed l.plain (h.field l.left (value (naming h v) whole (n + l.right)) ≡ true)
    unfolding raised naming
    raised-field l e = subst (λ (k : ℕ). Signed l.plain (h.field k (value (naming h v) whole (n + l.right)) ≡ true)) (zero-add l.left) e

    field-raised : (l : Literal) → Signed l.plain (h.field l.left (value (naming h v) whole (n + l.right)) ≡ true) → MeansField (naming h v) whole (raised 0 n l)
    unfolding raised naming
    field-raised l e = subst (λ (k : ℕ). Signed l.plain (h.field k (value (naming h v) whole (n + l.right)) ≡ true)) (sym (zero-add l.left)) e

    to_second : IsHeap (naming h w₂) → Meets (naming h v) (joined a b ps) → Meets (naming h w₂) b
    unfolding naming joined
    to_second is m =
        record {
          is_heap = is;
          nil_node =
              record {
                one_node' =
                    λ t u x y. out₂ (λ i j. i ≡ j) true t u (in_b t x) (in_b u y) (m.nil_node.one_node' (n + t) (n + u) (nil₂ t (in_b t x) ∙ x) (nil₂ u (in_b u y) ∙ y));
                own_link = λ k t x. out₂ (λ i j. h.link k i ≡ j) true t t (in_b t x) (in_b t x) (m.nil_node.own_link k (n + t) (nil₂ t (in_b t x) ∙ x));
              };
          equalities = equal;
          reachability = reach;
          fields = field;
        }
      where
        equal : Each (MeansEqual (naming h w₂) b.entries) b.equalities
        equal l k =
            let r = second.accepted.equal_terms l k in
            out₂ (λ i j. i ≡ j) l.plain l.left l.right r.0 r.1
            (raised-equal l (m.equalities (raised n n l) (Memᴰ.append_right a.equalities (Memᴰ.append_left _ (map_intro (raised n n) l k)))))

        reach : Each (MeansReach (naming h w₂) b.entries) b.reachability
        reach l k =
            let r = second.accepted.reach_terms l k in
            out₂ (Reaches (h.link l.link)) l.plain l.left l.right r.0 r.1
            (raised-reach l (m.reachability (raised n n l) (Memᴰ.append_right a.reachability (map_intro (raised n n) l k))))

        field : Each (MeansField (naming h w₂) b.entries) b.fields
        field l k =
            let r = second.accepted.field_term l k in
            out₂ (OnFields l.left) l.plain l.right l.right r r
            (raised-field l (m.fields (raised 0 n l) (Memᴰ.append_right a.fields (map_intro (raised 0 n) l k))))

    pairs_out : Meets (naming h v) (joined a b ps) → (p : Pair) → Memᴰ p ps → value (naming h w₁) a.entries p.first ≡ value (naming h w₂) b.entries p.second
    unfolding joined pair_literal
    pairs_out m p k =
        let r = paired p k in
        sym (value₁ p.first r.0)
        ∙ m.equalities (pair_literal n p) (Memᴰ.append_right a.equalities (Memᴰ.append_right (map (raised n n) b.equalities) (map_intro (pair_literal n) p k)))
        ∙ value₂ p.second r.1

    nils_out : Meets (naming h v) (joined a b ps) → (t u : ℕ) → names_nil a.entries t ≡ true → names_nil b.entries u ≡ true →
        value (naming h w₁) a.entries t ≡ value (naming h w₂) b.entries u
    nils_out m t u x y =
        sym (value₁ t (in_a t x)) ∙ m.nil_node.one_node' t (n + u) (nil₁ t (in_a t x) ∙ x) (nil₂ u (in_b u y) ∙ y) ∙ value₂ u (in_b u y)

    -- From the parts to the whole

    -- a nil term of the whole has the value of a nil term of a part
    abbrev NilOf : ℕ → Type 0
    NilOf t =
        ((u : ℕ) × (names_nil a.entries u ≡ true) × (value (naming h v) whole t ≡ value (naming h w₁) a.entries u))
        ⊎ ((u : ℕ) × (names_nil b.entries u ≡ true) × (value (naming h v) whole t ≡ value (naming h w₂) b.entries u))

    nil_of : (t : ℕ) → names_nil whole t ≡ true → NilOf t
    unfolding term_count
    nil_of t x = let r = nil_range whole t x in go r.0 (whose n (term_count b) t r.0 (omega (arith, r.1, count_terms a b ps)))
      where
        go : 1 ≤ t → (t ≤ n) ⊎ ((u : ℕ) × (t ≡ n + u) × (1 ≤ u) × (u ≤ term_count b)) → NilOf t
        go l (inl u) = inl (t, sym (nil₁ t (l, u)) ∙ x, value₁ t (l, u))
        go l (inr r) =
            let (u, e, i, j) = r in
            inr (u, sym (nil₂ u (i, j)) ∙ ap (names_nil whole) (sym e) ∙ x, ap (value (naming h v) whole) e ∙ value₂ u (i, j))

    module _ (m₁ : Meets (naming h w₁) a) (m₂ : Meets (naming h w₂) b)
        (equal_pairs : (p : Pair) → Memᴰ p ps → value (naming h w₁) a.entries p.first ≡ value (naming h w₂) b.entries p.second)
        (equal_nils : (t u : ℕ) → names_nil a.entries t ≡ true → names_nil b.entries u ≡ true →
        value (naming h w₁) a.entries t ≡ value (naming h w₂) b.entries u) where
      one_node' : (t u : ℕ) → names_nil whole t ≡ true → names_nil whole u ≡ true → value (naming h v) whole t ≡ value (naming h v) whole u
      one_node' t u x y = go (nil_of t x) (nil_of u y)
        where
          go : NilOf t → NilOf u → value (naming h v) whole t ≡ value (naming h v) whole u
          go (inl i) (inl j) = i.2 ∙ m₁.nil_node.one_node' i.0 j.0 i.1 j.1 ∙ sym j.2
          go (inl i) (inr j) = i.2 ∙ equal_nils i.0 j.0 i.1 j.1 ∙ sym j.2
          go (inr i) (inl j) = i.2 ∙ sym (equal_nils j.0 i.0 j.1 i.1) ∙ sym j.2
          go (inr i) (inr j) = i.2 ∙ m₂.nil_node.one_node' i.0 j.0 i.1 j.1 ∙ sym j.2

      own_link : (k t : ℕ) → names_nil whole t ≡ true → h.link k (value (naming h v) whole t) ≡ value (naming h v) whole t
      unfolding naming
      own_link k t x = go (nil_of t x)
        where
          go : NilOf t → h.link k (value (naming h v) whole t) ≡ value (naming h v) whole t
          go (inl i) = ap (h.link k) i.2 ∙ m₁.nil_node.own_link k i.0 i.1 ∙ sym i.2
          go (inr i) = ap (h.link k) i.2 ∙ m₂.nil_node.own_link k i.0 i.1 ∙ sym i.2

      second-equal : (l : Literal) → Memᴰ l b.equalities → MeansEqual (naming h v) whole (raised n n l)
      second-equal l k = let r = second.accepted.equal_terms l k in equal-raised l (in₂ (λ i j. i ≡ j) l.plain l.left l.right r.0 r.1 (m₂.equalities l k))

      pair-equal : (p : Pair) → Memᴰ p ps → MeansEqual (naming h v) whole (pair_literal n p)
      unfolding pair_literal
      pair-equal p k = let r = paired p k in value₁ p.first r.0 ∙ equal_pairs p k ∙ sym (value₂ p.second r.1)

      second-reach : (l : Literal) → Memᴰ l b.reachability → MeansReach (naming h v) whole (raised n n l)
      unfolding naming
      second-reach l k = let r = second.accepted.reach_terms l k in reach-raised l (in₂ (Reaches (h.link l.link)) l.plain l.left l.right r.0 r.1 (m₂.reachability l k))

      second-field : (l : Literal) → Memᴰ l b.fields → MeansField (naming h v) whole (raised 0 n l)
      unfolding naming
      second-field l k = let r = second.accepted.field_term l k in field-raised l (in₂ (OnFields l.left) l.plain l.right l.right r r (m₂.fields l k))

      -- a property of each literal of a list that is mapped
      each_of : {A : Type 0} (P : Literal → Type 0) (f : A → Literal) (xs : List A) → ((x : A) → Memᴰ x xs → P (f x)) → (l : Literal) → Memᴰ l (map f xs) → P l
      each_of P f xs h l k = let (x, own, e) = map-mem f l xs k in subst P (sym e) (h x own)

      to_whole : IsHeap (naming h v) → Meets (naming h v) (joined a b ps)
      unfolding naming joined
      to_whole is =
          record {
            is_heap = is;
            nil_node = record { one_node' = one_node'; own_link = own_link };
            equalities =
                λ l k. ⊎_elim (λ x. let r = first.accepted.equal_terms l x in in₁ (λ i j. i ≡ j) l.plain l.left l.right r.0 r.1 (m₁.equalities l x))
                (λ x.
                ⊎_elim (each_of (MeansEqual (naming h v) whole) (raised n n) b.equalities second-equal l)
                (each_of (MeansEqual (naming h v) whole) (pair_literal n) ps pair-equal l)
                (Memᴰ.append_cases (map (raised n n) b.equalities) x))
                (Memᴰ.append_cases a.equalities k);
            reachability =
                λ l k. ⊎_elim (λ x. let r = first.accepted.reach_terms l x in in₁ (Reaches (h.link l.link)) l.plain l.left l.right r.0 r.1 (m₁.reachability l x))
                (each_of (MeansReach (naming h v) whole) (raised n n) b.reachability second-reach l)
                (Memᴰ.append_cases a.reachability k);
            fields =
                λ l k. ⊎_elim (λ x. let r = first.accepted.field_term l x in in₁ (OnFields l.left) l.plain l.right l.right r r (m₁.fields l x))
                (each_of (MeansField (naming h v) whole) (raised 0 n) b.fields second-field l)
                (Memᴰ.append_cases a.fields k);
          }

  -- the names that a heap of the whole gives to the second's variables
  pub joined_only : Satisfiable (joined a b ps) → OneHeap a b ps
  unfolding naming
  joined_only s =
      let (h, m) = s in
      let names : ℕ → ℕ = λ t. h.variable (n + t) in
      let is : IsHeap (naming h names) = record { nonempty = m.is_heap.nonempty; link_node = m.is_heap.link_node; variable_node = λ t. m.is_heap.variable_node (n + t) } in (
        h,
        names,
        record {
          meets_first = to_first h h.variable h.variable names (λ t l u. refl) (λ t l u. refl) m.is_heap m;
          meets_second = to_second h h.variable h.variable names (λ t l u. refl) (λ t l u. refl) is m;
          pairs_equal = pairs_out h h.variable h.variable names (λ t l u. refl) (λ t l u. refl) m;
          nils_equal = nils_out h h.variable h.variable names (λ t l u. refl) (λ t l u. refl) m;
        },
      )

  -- the names of the first's variables and the second's, put together
  merged : (ℕ → ℕ) → (ℕ → ℕ) → ℕ → ℕ
  merged w₁ w₂ t = cond (leb t n) (w₁ t) (w₂ (t - n))

  merged-first : (w₁ w₂ : ℕ → ℕ) (t : ℕ) → 1 ≤ t → t ≤ n → merged w₁ w₂ t ≡ w₁ t
  unfolding merged
  merged-first w₁ w₂ t l u = rw (le-leb t n u)

  merged-second : (w₁ w₂ : ℕ → ℕ) (t : ℕ) → 1 ≤ t → t ≤ term_count b → merged w₁ w₂ (n + t) ≡ w₂ t
  unfolding merged
  merged-second w₁ w₂ t l u = rw (lt-leb (n + t) n (omega arith)) (ap w₂ (back))
    where
      back : n + t - n ≡ t
      back = omega arith

  merged_node : (h : Heap) (w₁ w₂ : ℕ → ℕ) → ((t : ℕ) → Node h (w₁ t)) → ((t : ℕ) → Node h (w₂ t)) → (t : ℕ) → Node h (merged w₁ w₂ t)
  unfolding merged
  merged_node h w₁ w₂ i j t = go (leb t n)
    where
      go : (c : Bool) → Node h (cond c (w₁ t) (w₂ (t - n)))
      go true = i t
      go false = j (t - n)

  pub joined_if : OneHeap a b ps → Satisfiable (joined a b ps)
  unfolding naming
  joined_if s =
      let (h, names, m) = s in
      let v : ℕ → ℕ = merged h.variable names in
      let is : IsHeap (naming h v) =
      record {
        nonempty = m.meets_first.is_heap.nonempty;
        link_node = m.meets_first.is_heap.link_node;
        variable_node = merged_node h h.variable names m.meets_first.is_heap.variable_node m.meets_second.is_heap.variable_node;
      } in
      (naming h v, to_whole h v h.variable names (merged-first h.variable names) (merged-second h.variable names) m.meets_first m.meets_second m.pairs_equal m.nils_equal is)
