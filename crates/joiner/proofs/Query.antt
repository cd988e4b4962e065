-- What the writers of a joined query are given and leave, section by section. Assumes nothing.
use Prim.Native.Nat.{ℕ, suc, ◌+◌, ◌*◌, ◌≤◌, ◌<◌}
use native.Mathlib.Omega.{arith}
use native.Mathlib.Nat.{zero-add}
use mathlib.Core.Path.{◌≡◌, refl, sym, ap, ◌∙◌, subst}
use mathlib.Core.Logic.{⊎_elim}
use mathlib.Core.Bool.{Bool, true, false, cond}
use mathlib.Core.List.Memᴰ
use mathlib.Core.List.{List, [], ◌∷◌, ◌++◌, map, append_assoc, Memᴰ}
use lib.ListN.{length, get_or, take, drop, length-append, length-map}
use lib.Dec.{eqb, leb}
use borrow.Author.Tests.{leb-true, eqb-true}
use Rattle.logic.specs.Search.{◌and◌, ◌or◌, flat_map}
use Rattle.logic.specs.Query.{Literal, Entries, Query, term_count, entry_of, names_nil, argument_of, first_byte, literals, decode}
use Rattle.theory.proofs.Basics.Search.{and_left, and_right, all_true, flat_map-append}
use Rattle.theory.proofs.Basics.Compare.{eq_cases}
use Rattle.theory.proofs.Basics.Count.{length-flat_map}
use Rattle.theory.proofs.Query.Tied.{Accepted, InTerms}
use Rattle.theory.proofs.Query.AcceptedBytes.{accepted}
use Rattle.query.specs.declared.Layout.{Layout}
use Rattle.query.proofs.Literals.{listed-length}
use Rattle.joining.specs.Pairs.{Pair, pairs_of, has_terms, is_pair_list}
use Rattle.encoding.specs.QueryBytes.{literal_bytes, section_bytes, encode, within_limits}
use Rattle.joining.specs.Joined.{raised_entry, raised, pair_literal, joined}
use Rattle.encoding.proofs.Encoded.{Limits, within_limits_lem}
use Rattle.joining.proofs.PairLists.{pair_terms}
use Rattle.joining.proofs.Counts.{count_terms, count_equalities, count_reachability, count_fields}
use Rattle.joining.proofs.Accepted.{Paired}
use Rattle.rows.proofs.Selections.{and_both}
use Rattle.joiner.specs.Bytes.{Small, SmallEntries, SmallPairs, keeps_limits, Bounded}
use Rattle.joiner.specs.Promise.{Passing}
use Rattle.joiner.proofs.Laws.{pair_in, pairs_are, entries_long, literals_long}
use Rattle.joiner.proofs.Answers.{equal_counted, reach_counted, field_counted}

-- Raised by nothing

raised-none : (e : ℕ) → raised_entry 0 e ≡ e
unfolding raised_entry
raised-none e = go (eqb e 0 or eqb e 255)
  where
    go : (c : Bool) → cond c e (0 + e) ≡ e
    go true = refl
    go false = zero-add e

map-none : {A : Type 0} (f : A → A) → ((x : A) → f x ≡ x) → (xs : List A) → map f xs ≡ xs
map-none f h [] = refl
map-none {A} f h (x ∷ xs) = ap (λ (y : A). y ∷ map f xs) (h x) ∙ ap (λ (ys : List A). x ∷ ys) (map-none f h xs)

literal_none : (l : Literal) → raised 0 0 l ≡ l
unfolding raised
literal_none l =
    ap (λ (i : ℕ). record { plain = l.plain; link = l.link; left = i; right = 0 + l.right }) (zero-add l.left)
    ∙ ap (λ (i : ℕ). record { plain = l.plain; link = l.link; left = l.left; right = i }) (zero-add l.right)

section_is : (c : ℕ) (xs ys ws : List Literal) → c ≡ length ws → ws ≡ xs ++ ys → c ∷ (flat_map literal_bytes xs ++ flat_map literal_bytes ys) ≡ section_bytes ws
unfolding section_bytes
section_is c xs ys ws e h =
    ap (λ (k : ℕ). k ∷ (flat_map literal_bytes xs ++ flat_map literal_bytes ys)) e
    ∙ ap (λ (zs : List ℕ). length ws ∷ zs) (sym (ap (flat_map literal_bytes) h ∙ flat_map-append literal_bytes xs ys))

four : {t t' e e' r r' f f' : List ℕ} (b : List ℕ) → t ≡ t' → e ≡ e' → r ≡ r' → f ≡ f' → t ++ (e ++ (r ++ (f ++ b))) ≡ t' ++ (e' ++ (r' ++ (f' ++ b)))
four b p q u v = rw (p, q, u, v)

-- Numbers that fit

mem_place : (xs : List ℕ) (e : ℕ) → Memᴰ e xs → (i : ℕ) × (i < length xs) × (get_or xs i 0 ≡ e)
mem_place [] e m = absurd (Memᴰ.not-nil m)
mem_place (x ∷ xs) e m =
    ⊎_elim (λ q. (0, omega arith, sym q)) (λ n. let (i, l, q) = mem_place xs e n in (suc i, omega arith, q)) (Memᴰ.cases_cons m)

entry_fits : (n e t : ℕ) → n ≤ 16 → t ≤ 16 → cond (eqb e 255) 0 e < t → raised_entry n e < 256
unfolding raised_entry ◌or◌
entry_fits n e t small low h =
    ⊎_elim (λ z. rw z (omega arith))
    (λ z.
    ⊎_elim (λ y. rw y (omega arith))
    (λ y.
    let under : e < t = subst (λ (c : Bool). cond c 0 e < t) y.1 h in
    rw (z.1, y.1) (omega arith))
    (eq_cases e 255))
    (eq_cases e 0)

entries_fit : (q : Query) (n : ℕ) → Accepted q → n ≤ 16 → SmallEntries n q.entries.terms
unfolding term_count argument_of names_nil entry_of
entries_fit q n ok small e m =
    let (i, l, p) = mem_place q.entries.terms e m in
    let most = ok.term_count_lem in
    subst (λ (x : ℕ). raised_entry n x < 256) p (entry_fits n (get_or q.entries.terms i 0) (suc i) small (omega arith) (ok.entry_below (suc i) (omega arith, l)))

terms_fit : (q : Query) (i j : ℕ) (ls : List Literal) → term_count q ≤ 16 → i ≤ 16 → j ≤ 16 → ((l : Literal) → Memᴰ l ls → InTerms q l.left × InTerms q l.right) → Small i j ls
terms_fit q i j ls n si sj h l m = let r = h l m in (omega (arith, r.0.1), omega (arith, r.1.1))

-- The two queries and the pair list

module _ (first second pairs : List ℕ) (f s : Layout) (pf : Passing f first) (ps : Passing s second) (listed : is_pair_list f.terms s.terms pairs ≡ true) where
  abbrev a : Query
  a = decode first

  abbrev b : Query
  b = decode second

  first_ok : Accepted (decode first)
  first_ok = accepted first pf.accepted

  second_ok : Accepted (decode second)
  second_ok = accepted second ps.accepted

  pub pairs_long : length pairs ≡ 1 + 2 * get_or pairs 0 0
  unfolding is_pair_list first_byte
  pairs_long = eqb-true (length pairs) (1 + 2 * get_or pairs 0 0) (and_right _ _ (and_left _ _ listed))

  pub pairs_few : get_or pairs 0 0 ≤ 60
  unfolding is_pair_list first_byte
  pairs_few = leb-true (get_or pairs 0 0) 60 (and_left _ _ (and_left _ _ listed))

  pair_in_lem : (p : Pair) → Memᴰ p (pairs_of pairs) → ((1 ≤ p.first) × (p.first ≤ f.terms)) × ((1 ≤ p.second) × (p.second ≤ s.terms))
  unfolding is_pair_list
  pair_in_lem p m = pair_terms f.terms s.terms p (all_true (has_terms f.terms s.terms) p (and_right _ _ listed) m)

  paired : (p : Pair) → Memᴰ p (pairs_of pairs) → Paired (decode first) (decode second) p
  paired p m =
      let r = pair_in_lem p m in
      let i = pf.laid.term_count_lem in
      let j = ps.laid.term_count_lem in
      ((r.0.0, omega (arith, r.0.1)), (r.1.0, omega (arith, r.1.1)))

  pairs-count : length (pairs_of pairs) ≡ get_or pairs 0 0
  pairs-count = ap length (pairs_are pairs (get_or pairs 0 0) pairs_long) ∙ listed-length (pair_in pairs) (get_or pairs 0 0)

  abbrev whole : Query
  whole = joined (decode first) (decode second) (pairs_of pairs)

  -- how long the sections are
  terms_sum : term_count whole ≡ f.terms + s.terms
  terms_sum = count_terms (decode first) (decode second) (pairs_of pairs) ∙ omega (arith, pf.laid.term_count_lem, ps.laid.term_count_lem)

  equal_sum : length whole.equalities ≡ f.equal_count + s.equal_count + get_or pairs 0 0
  equal_sum = count_equalities (decode first) (decode second) (pairs_of pairs) ∙ omega (arith, equal_counted f first pf.laid, equal_counted s second ps.laid, pairs-count)

  reach_sum : length whole.reachability ≡ f.reach_count + s.reach_count
  reach_sum = count_reachability (decode first) (decode second) (pairs_of pairs) ∙ omega (arith, reach_counted f first pf.laid, reach_counted s second ps.laid)

  field_sum : length whole.fields ≡ f.field_count + s.field_count
  field_sum = count_fields (decode first) (decode second) (pairs_of pairs) ∙ omega (arith, field_counted f first pf.laid, field_counted s second ps.laid)

  -- "a limit passed", as the code tests it
  pub limits_same : (count : ℕ) → count ≡ get_or pairs 0 0 → keeps_limits f s count ≡ within_limits whole
  unfolding keeps_limits within_limits
  limits_same count e =
      rw (terms_sum, equal_sum, reach_sum, field_sum, e)
      (and_both _ _ ∙ ap (λ (x : Bool). x and leb (f.field_count + s.field_count) 60) (and_both _ _ ∙ ap (λ (x : Bool). x and leb (f.reach_count + s.reach_count) 60) (and_both _ _)))

  pub first_bounded : Bounded f
  first_bounded =
      record {
        terms_within = pf.laid.terms_within;
        equal_within = pf.laid.equal_within;
        reach_within = pf.laid.reach_within;
        field_within = pf.laid.field_within;
      }

  pub second_bounded : Bounded s
  second_bounded =
      record {
        terms_within = ps.laid.terms_within;
        equal_within = ps.laid.equal_within;
        reach_within = ps.laid.reach_within;
        field_within = ps.laid.field_within;
      }

  module _ (within : within_limits (joined (decode first) (decode second) (pairs_of pairs)) ≡ true) (count : ℕ) (counts : count ≡ get_or pairs 0 0) where
    limits : Limits whole
    limits = within_limits_lem whole within

    pub terms-low : f.terms + s.terms ≤ 16
    terms-low = omega (arith, terms_sum, limits.terms)

    pub equal_low : f.equal_count + s.equal_count + count ≤ 60
    equal_low = omega (arith, equal_sum, limits.equalities, counts)

    pub reach_low : f.reach_count + s.reach_count + 0 ≤ 60
    reach_low = omega (arith, reach_sum, limits.reachability)

    pub field_low : f.field_count + s.field_count + 0 ≤ 60
    field_low = omega (arith, field_sum, limits.fields)

    -- the numbers of each section fit
    pub entries-first : SmallEntries 0 (take f.terms (drop 1 first))
    entries-first = subst (SmallEntries 0) (ap (λ (es : Entries). es.terms) pf.laid.entries_are) (entries_fit (decode first) 0 first_ok (omega arith))

    pub entries-second : SmallEntries f.terms (take s.terms (drop 1 second))
    entries-second = subst (SmallEntries f.terms) (ap (λ (es : Entries). es.terms) ps.laid.entries_are) (entries_fit (decode second) f.terms second_ok pf.laid.terms_within)

    pub equal_first : Small 0 0 (literals (take (3 * f.equal_count) (drop f.equal_at first)))
    equal_first = subst (Small 0 0) pf.laid.equal_are (terms_fit (decode first) 0 0 _ first_ok.term_count_lem (omega arith) (omega arith) first_ok.equal_terms)

    pub equal_second : Small f.terms f.terms (literals (take (3 * s.equal_count) (drop s.equal_at second)))
    equal_second =
        subst (Small f.terms f.terms) ps.laid.equal_are
        (terms_fit (decode second) f.terms f.terms _ second_ok.term_count_lem pf.laid.terms_within pf.laid.terms_within second_ok.equal_terms)

    pub pairs_fit : SmallPairs f.terms (pairs_of pairs)
    pairs_fit p m =
        let r = pair_in_lem p m in
        let i = pf.laid.terms_within in
        let j = ps.laid.terms_within in
        (omega (arith, r.0.1), omega (arith, r.1.1))

    pub reach_first : Small 0 0 (literals (take (3 * f.reach_count) (drop f.reach_at first)))
    reach_first = subst (Small 0 0) pf.laid.reach_are (terms_fit (decode first) 0 0 _ first_ok.term_count_lem (omega arith) (omega arith) first_ok.reach_terms)

    pub reach-second : Small f.terms f.terms (literals (take (3 * s.reach_count) (drop s.reach_at second)))
    reach-second =
        subst (Small f.terms f.terms) ps.laid.reach_are
        (terms_fit (decode second) f.terms f.terms _ second_ok.term_count_lem pf.laid.terms_within pf.laid.terms_within second_ok.reach_terms)

    pub field_first : Small 0 0 (literals (take (3 * f.field_count) (drop f.field_at first)))
    field_first =
        subst (Small 0 0) pf.laid.field_are
        (λ l m. (omega (arith, (first_ok.field_number l m).1), omega (arith, (first_ok.field_term l m).1, first_ok.term_count_lem)))

    pub field_second : Small 0 f.terms (literals (take (3 * s.field_count) (drop s.field_at second)))
    field_second =
        subst (Small 0 f.terms) ps.laid.field_are
        (λ l m. (omega (arith, (second_ok.field_number l m).1), omega (arith, (second_ok.field_term l m).1, second_ok.term_count_lem, pf.laid.terms_within)))

    -- what is written
    abbrev pub term_bytes : List ℕ
    term_bytes = (f.terms + s.terms) ∷ (map (raised_entry 0) (take f.terms (drop 1 first)) ++ map (raised_entry f.terms) (take s.terms (drop 1 second)))

    abbrev pub equal_bytes : List ℕ
    equal_bytes =
        (f.equal_count + s.equal_count + count)
        ∷ (flat_map literal_bytes (map (raised 0 0) (literals (take (3 * f.equal_count) (drop f.equal_at first))))
        ++ flat_map literal_bytes (map (raised f.terms f.terms) (literals (take (3 * s.equal_count) (drop s.equal_at second)))))

    abbrev pub pair_bytes : List ℕ
    pair_bytes = flat_map literal_bytes (map (pair_literal f.terms) (pairs_of pairs))

    abbrev pub reach_bytes : List ℕ
    reach_bytes =
        (f.reach_count + s.reach_count + 0)
        ∷ (flat_map literal_bytes (map (raised 0 0) (literals (take (3 * f.reach_count) (drop f.reach_at first))))
        ++ flat_map literal_bytes (map (raised f.terms f.terms) (literals (take (3 * s.reach_count) (drop s.reach_at second)))))

    abbrev pub field_bytes : List ℕ
    field_bytes =
        (f.field_count + s.field_count + 0)
        ∷ (flat_map literal_bytes (map (raised 0 0) (literals (take (3 * f.field_count) (drop f.field_at first))))
        ++ flat_map literal_bytes (map (raised 0 f.terms) (literals (take (3 * s.field_count) (drop s.field_at second)))))

    -- how long the parts are
    pub term_bytes_long : length term_bytes ≡ 1 + f.terms + s.terms
    term_bytes_long =
        omega (
          arith,
          length-append (map (raised_entry 0) (take f.terms (drop 1 first)))
              (map (raised_entry f.terms) (take s.terms (drop 1 second))),
          entries_long (raised_entry 0) f.terms first pf.laid.entries_fit,
          entries_long (raised_entry f.terms) s.terms second ps.laid.entries_fit,
        )

    section_long : (i j more at₁ count₁ at₂ count₂ : ℕ) → at₁ + 3 * count₁ ≤ length first → at₂ + 3 * count₂ ≤ length second →
        length ((count₁ + count₂ + more) ∷ (flat_map literal_bytes (map (raised 0 0) (literals (take (3 * count₁) (drop at₁ first)))) ++ flat_map
        literal_bytes (map (raised i j) (literals (take (3 * count₂) (drop at₂ second)))))) ≡ 1 + count₁ * 3 + count₂ * 3
    section_long i j more at₁ count₁ at₂ count₂ h g =
        omega (
          arith,
          length-append (flat_map literal_bytes (map (raised 0 0) (literals (take (3 * count₁) (drop at₁ first)))))
              (flat_map literal_bytes (map (raised i j) (literals (take (3 * count₂) (drop at₂ second))))),
          literals_long first at₁ count₁ 0 0 h,
          literals_long second at₂ count₂ i j g,
        )

    pub equal_bytes_long : length equal_bytes ≡ 1 + f.equal_count * 3 + s.equal_count * 3
    equal_bytes_long = section_long f.terms f.terms count _ _ _ _ pf.laid.equal_fit ps.laid.equal_fit

    pub reach_bytes_long : length reach_bytes ≡ 1 + f.reach_count * 3 + s.reach_count * 3
    reach_bytes_long = section_long f.terms f.terms 0 _ _ _ _ pf.laid.reach_fit ps.laid.reach_fit

    pub field_bytes_long : length field_bytes ≡ 1 + f.field_count * 3 + s.field_count * 3
    field_bytes_long = section_long 0 f.terms 0 _ _ _ _ pf.laid.field_fit ps.laid.field_fit

    pub pair_bytes_long : length pair_bytes ≡ count * 3
    unfolding literal_bytes
    pair_bytes_long =
        length-flat_map literal_bytes 3 (λ l. refl) (map (pair_literal f.terms) (pairs_of pairs))
        ∙ ap (λ (k : ℕ). k * 3) (length-map (pairs_of pairs) (pair_literal f.terms) ∙ pairs-count ∙ sym counts)

    -- and what it says
    same_terms : f.terms ≡ term_count (decode first)
    same_terms = pf.laid.term_count_lem

    terms_are : term_bytes ≡ term_count whole ∷ whole.entries.terms
    unfolding joined
    terms_are =
        ap (λ (k : ℕ). k ∷ (map (raised_entry 0) (take f.terms (drop 1 first)) ++ map (raised_entry f.terms) (take s.terms (drop 1 second)))) (sym terms_sum)
        ∙ ap (λ (xs : List ℕ). term_count whole ∷ (xs ++ map (raised_entry f.terms) (take s.terms (drop 1 second))))
        (map-none (raised_entry 0) raised-none _ ∙ sym (ap (λ (es : Entries). es.terms) pf.laid.entries_are))
        ∙ ap (λ (xs : List ℕ). term_count whole ∷ ((decode first).entries.terms ++ map (raised_entry f.terms) xs)) (sym (ap (λ (es : Entries). es.terms) ps.laid.entries_are))
        ∙ ap (λ (k : ℕ). term_count whole ∷ ((decode first).entries.terms ++ map (raised_entry k) (decode second).entries.terms)) same_terms

    both : (i j : ℕ) (xs ys zs ws : List Literal) → zs ≡ xs → ws ≡ ys → zs ++ map (raised i j) ws ≡ map (raised 0 0) xs ++ map (raised i j) ys
    both i j xs ys zs ws e g =
        ap (λ (vs : List Literal). vs ++ map (raised i j) ws) (e ∙ sym (map-none (raised 0 0) literal_none xs)) ∙ ap (λ (vs : List Literal). map (raised 0 0) xs ++ map (raised i j) vs) g

    equal_are : equal_bytes ++ pair_bytes ≡ section_bytes whole.equalities
    unfolding joined section_bytes
    equal_are =
        ap (λ (k : ℕ). k ∷ ((flat_map literal_bytes xs ++ flat_map literal_bytes ys) ++ pair_bytes)) (ap (λ (k : ℕ). f.equal_count + s.equal_count + k) counts ∙ sym equal_sum)
        ∙ ap (λ (zs : List ℕ). length whole.equalities ∷ zs)
        (ap (λ (zs : List ℕ). zs ++ pair_bytes) (sym (flat_map-append literal_bytes xs ys)) ∙ sym (flat_map-append literal_bytes (xs ++ ys) (map (pair_literal f.terms) (pairs_of pairs)))
        ∙ ap (flat_map literal_bytes) (ap (λ (zs : List Literal). zs ++ map (pair_literal f.terms) (pairs_of pairs))
        (sym (both f.terms f.terms _ _ (decode first).equalities (decode second).equalities pf.laid.equal_are ps.laid.equal_are))
        ∙ append_assoc (decode first).equalities (map (raised f.terms f.terms) (decode second).equalities)
        (map (pair_literal f.terms) (pairs_of pairs))
        ∙ ap (λ (k : ℕ). (decode first).equalities ++ (map (raised k k) (decode second).equalities ++ map (pair_literal k) (pairs_of pairs))) same_terms))
      where
        xs : List Literal
        xs = map (raised 0 0) (literals (take (3 * f.equal_count) (drop f.equal_at first)))

        ys : List Literal
        ys = map (raised f.terms f.terms) (literals (take (3 * s.equal_count) (drop s.equal_at second)))

    reach_are : reach_bytes ≡ section_bytes whole.reachability
    unfolding joined
    reach_are =
        section_is _ _ _ whole.reachability (omega (arith, reach_sum))
        (ap (λ (k : ℕ). (decode first).reachability ++ map (raised k k) (decode second).reachability) (sym same_terms)
        ∙ both f.terms f.terms _ _ (decode first).reachability (decode second).reachability pf.laid.reach_are ps.laid.reach_are)

    field_are : field_bytes ≡ section_bytes whole.fields
    unfolding joined
    field_are =
        section_is _ _ _ whole.fields (omega (arith, field_sum))
        (ap (λ (k : ℕ). (decode first).fields ++ map (raised 0 k) (decode second).fields) (sym same_terms)
        ∙ both 0 f.terms _ _ (decode first).fields (decode second).fields pf.laid.field_are ps.laid.field_are)

    pub query-bytes : term_bytes ++ (equal_bytes ++ (pair_bytes ++ (reach_bytes ++ (field_bytes ++ (0 ∷ []))))) ≡ encode whole
    unfolding encode
    query-bytes =
        ap (λ (zs : List ℕ). term_bytes ++ zs) (sym (append_assoc equal_bytes pair_bytes (reach_bytes ++ (field_bytes ++ (0 ∷ [])))))
        ∙ four (0 ∷ []) terms_are equal_are reach_are field_are
