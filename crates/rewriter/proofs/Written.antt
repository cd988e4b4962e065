-- The bytes that are written are those of the rewritten query. Assumes nothing.
use Prim.Native.Nat.{ℕ, zero, suc, ◌+◌, ◌-◌, ◌*◌, ◌≤◌, ◌<◌}
use native.Mathlib.Omega.{arith}
use native.Mathlib.Numerals.{add-one}
use mathlib.Core.Path.{◌≡◌, refl, sym, ap, ap₂, ◌∙◌}
use mathlib.Core.List.{List, [], ◌∷◌, ◌++◌, map, append_assoc, append-nil}
use lib.ListN.{length, take, drop, length-append, length-map, length-drop}
use lib.Seq.{take_at, drop_at, length-take-le}
use Rattle.logic.specs.Search.{from, flat_map}
use Rattle.logic.specs.Query.{Literal, Query, term_count, Role, sign_role, number_role, boolean_section, parts, literals, section}
use Rattle.theory.proofs.Basics.Count.{length-flat_map}
use Rattle.theory.proofs.Query.Bytes.{Allowed, literals-count}
use Rattle.theory.proofs.Basics.Search.{flat_map-append}
use Rattle.encoding.specs.QueryBytes.{literal_bytes, section_bytes, encode}
use Rattle.encoding.proofs.Lengths.{encode-length}
use Rattle.encoding.proofs.Recovered.{sign_allowed}
use Rattle.query.specs.LaysOut.{LaysOutAs}
use Rattle.query.specs.declared.Layout.{Layout}
use Rattle.query.specs.declared.FullLayout.{FullLayout}
use Rattle.rewriting.specs.OldQuery.{old_sections, flags, decode_old}
use Rattle.rewriting.specs.Rewritten.{as_field, with_fresh, rewritten, rewrite}
use Rattle.rewriting.specs.Call.{rewrite_of}
use Rattle.rewriting.proofs.OldBytes.{old_parts, layout_is, booleans_are, boolean_part_lem, flags-count}
use Rattle.rewriting.proofs.Copied.{old_bytes, old_written}
use Rattle.rewriter.specs.Bytes.{cut, field_bytes, term_bytes, data_bytes, rewritten_bytes}
use Rattle.rewriter.specs.Promise.{Passing}

-- the part between two others
pub cut_at : (xs ys zs : List ℕ) (i j : ℕ) → length xs ≡ i → i + length ys ≡ j → cut (xs ++ (ys ++ zs)) i j ≡ ys
unfolding cut
cut_at xs ys zs i j e f =
    let n : length ys ≡ j - i = omega arith in
    ap (take (j - i)) (drop_at xs (ys ++ zs) i e) ∙ take_at ys zs (j - i) n

-- booleans as data literals
fields_are : (t : ℕ) (left : Role) (c i : ℕ) (bytes : List ℕ) → length bytes ≡ c * 2 →
    Allowed (flat_map (λ j. sign_role ∷ left ∷ []) (from c i)) bytes → flat_map literal_bytes (map (as_field t) (flags bytes)) ≡ field_bytes t bytes
unfolding flat_map from flags literal_bytes as_field field_bytes
fields_are t left zero i [] e h = refl
fields_are t left zero i (s ∷ bytes) e h = absurd (omega arith)
fields_are t left (suc c) i [] e h = absurd (omega arith)
fields_are t left (suc c) i (s ∷ []) e h = absurd (omega arith)
fields_are t left (suc c) i (s ∷ a ∷ rest) e h =
    ap₂ (λ (x : ℕ) (ys : List ℕ). x ∷ a ∷ t ∷ ys) (sign_allowed s h.0) (fields_are t left c (suc i) rest (omega arith) h.1.1)

literal-bytes : (ls : List Literal) → length (flat_map literal_bytes ls) ≡ 3 * length ls
unfolding literal_bytes
literal-bytes ls = length-flat_map literal_bytes 3 (λ l. refl) ls ∙ omega arith

-- how many literals the sections of a query have that is laid out
module _ {q : Query} {l : Layout} {bytes : List ℕ} (laid : LaysOutAs q l bytes) where
  counted : (ls : List Literal) (at k : ℕ) → at + 3 * k ≤ length bytes → ls ≡ literals (take (3 * k) (drop at bytes)) → k ≡ length ls
  counted ls at k fit e =
      let long : length (take (3 * k) (drop at bytes)) ≡ k * 3 = length-take-le (3 * k) (drop at bytes) (omega (arith, length-drop at bytes)) ∙ omega arith in
      sym (ap length e ∙ literals-count k (take (3 * k) (drop at bytes)) long)

  pub equal-count : l.equal_count ≡ length q.equalities
  equal-count = counted q.equalities l.equal_at l.equal_count laid.equal_fit laid.equal_are

  pub reach-count : l.reach_count ≡ length q.reachability
  reach-count = counted q.reachability l.reach_at l.reach_count laid.reach_fit laid.reach_are

  pub field_count : l.field_count ≡ length q.fields
  field_count = counted q.fields l.field_at l.field_count laid.field_fit laid.field_are

-- The parts of an old query whose first four sections say q, and whose booleans are these bytes
module _ (q : Query) (booleans : List ℕ) where
  abbrev fourth : ℕ
  fourth = term_count q + 3 * length q.equalities + 3 * length q.reachability + 3

  abbrev count : ℕ
  count = length (flags booleans)

  unfoldable middle : List ℕ
  middle = section_bytes q.equalities ++ section_bytes q.reachability

  unfoldable fields : List ℕ
  fields = flat_map literal_bytes q.fields

  middle_long : term_count q + 1 + length middle ≡ fourth
  unfolding middle section_bytes
  middle_long =
      omega
      (arith, length-append (section_bytes q.equalities) (section_bytes q.reachability), literal-bytes q.equalities, literal-bytes q.reachability)

  fields_long : length fields ≡ 3 * length q.fields
  unfolding fields
  fields_long = literal-bytes q.fields

  -- the bytes, by where they are cut
  first_cut : old_bytes q booleans ≡ (term_count q ∷ []) ++ (q.entries.terms ++ (middle ++ (length q.fields ∷ (fields ++ (count ∷ booleans)))))
  unfolding old_bytes middle fields section_bytes
  first_cut = ap (λ (xs : List ℕ). term_count q ∷ (q.entries.terms ++ xs)) (sym (append_assoc (section_bytes q.equalities) (section_bytes q.reachability) _))

  second_cut : old_bytes q booleans ≡ (term_count q ∷ q.entries.terms) ++ (middle ++ (length q.fields ∷ (fields ++ (count ∷ booleans))))
  second_cut = first_cut

  third_cut : old_bytes q booleans ≡ ((term_count q ∷ q.entries.terms) ++ (middle ++ (length q.fields ∷ []))) ++ (fields ++ (count ∷ booleans))
  third_cut =
      second_cut ∙ ap (λ (xs : List ℕ). (term_count q ∷ q.entries.terms) ++ xs) (sym (append_assoc middle (length q.fields ∷ []) (fields ++ (count ∷ booleans))))
      ∙ sym (append_assoc (term_count q ∷ q.entries.terms) (middle ++ (length q.fields ∷ [])) (fields ++ (count ∷ booleans)))

  fourth-cut : old_bytes q booleans ≡ (((term_count q ∷ q.entries.terms) ++ (middle ++ (length q.fields ∷ []))) ++ (fields ++ (count ∷ []))) ++ (booleans ++ [])
  fourth-cut =
      third_cut ∙ ap (λ (xs : List ℕ). ((term_count q ∷ q.entries.terms) ++ (middle ++ (length q.fields ∷ []))) ++ (fields ++ (count ∷ xs))) (sym (append-nil booleans))
      ∙ ap (λ (xs : List ℕ). ((term_count q ∷ q.entries.terms) ++ (middle ++ (length q.fields ∷ []))) ++ xs) (sym (append_assoc fields (count ∷ []) (booleans ++ [])))
      ∙ sym (append_assoc ((term_count q ∷ q.entries.terms) ++ (middle ++ (length q.fields ∷ []))) (fields ++ (count ∷ [])) (booleans ++ []))

  head_long : length ((term_count q ∷ q.entries.terms) ++ (middle ++ (length q.fields ∷ []))) ≡ fourth + 1
  unfolding term_count
  head_long =
      omega
      (arith, length-append (length q.entries.terms ∷ q.entries.terms) (middle ++ (length q.fields ∷ [])), length-append middle (length q.fields ∷ []), middle_long)

  pub old_length : length (old_bytes q booleans) ≡ fourth + 1 + 3 * length q.fields + 1 + length booleans
  old_length =
      ap length third_cut
      ∙ omega (
        arith,
        length-append ((term_count q ∷ q.entries.terms) ++ (middle ++ (length q.fields ∷ []))) (fields ++ (count ∷ booleans)),
        head_long,
        length-append fields (count ∷ booleans),
        fields_long,
      )

  entries-cut : cut (old_bytes q booleans) 1 (term_count q + 1) ≡ q.entries.terms
  unfolding term_count
  entries-cut = ap (λ (xs : List ℕ). cut xs 1 (length q.entries.terms + 1)) first_cut ∙ cut_at (term_count q ∷ []) q.entries.terms _ 1 (length q.entries.terms + 1) refl (omega arith)

  middle-cut : cut (old_bytes q booleans) (term_count q + 1) fourth ≡ middle
  unfolding term_count
  middle-cut =
      ap (λ (xs : List ℕ). cut xs (term_count q + 1) fourth) second_cut
      ∙ cut_at (term_count q ∷ q.entries.terms) middle _ (term_count q + 1) fourth (sym (add-one (length q.entries.terms))) middle_long

  fields-cut : cut (old_bytes q booleans) (fourth + 1) (fourth + 1 + 3 * length q.fields) ≡ fields
  fields-cut =
      ap (λ (xs : List ℕ). cut xs (fourth + 1) (fourth + 1 + 3 * length q.fields)) third_cut
      ∙ cut_at ((term_count q ∷ q.entries.terms) ++ (middle ++ (length q.fields ∷ []))) fields (count ∷ booleans) (fourth + 1)
      (fourth + 1 + 3 * length q.fields) head_long (omega (arith, fields_long))

  booleans-cut : length booleans ≡ 2 * count → cut (old_bytes q booleans) (fourth + 1 + 3 * length q.fields + 1) (fourth + 1 + 3 * length q.fields + 1 + 2 * count) ≡ booleans
  booleans-cut even =
      ap (λ (xs : List ℕ). cut xs (fourth + 1 + 3 * length q.fields + 1) (fourth + 1 + 3 * length q.fields + 1 + 2 * count)) fourth-cut
      ∙ cut_at (((term_count q ∷ q.entries.terms) ++ (middle ++ (length q.fields ∷ []))) ++ (fields ++ (count ∷ []))) booleans []
      (fourth + 1 + 3 * length q.fields + 1) (fourth + 1 + 3 * length q.fields + 1 + 2 * count)
      (omega (arith, length-append ((term_count q ∷ q.entries.terms) ++ (middle ++ (length q.fields ∷ []))) (fields ++ (count ∷ [])), head_long, length-append fields (count ∷ []), fields_long))
      (omega (arith, even))

  -- the bytes of the query with the fresh variable
  encoded : flat_map literal_bytes (map (as_field (suc (term_count q))) (flags booleans)) ≡ field_bytes (suc (term_count q)) booleans →
      encode (with_fresh q (flags booleans)) ≡ ((term_count
      q + 1) ∷ []) ++ ((q.entries.terms ++ (0 ∷ [])) ++ (middle ++ ((length q.fields + count) ∷ (fields ++ (field_bytes (term_count q + 1) booleans ++ (0 ∷ []))))))
  unfolding encode with_fresh term_count middle fields section_bytes
  encoded h =
      ap₂ (λ (x : ℕ) (xs : List ℕ). x ∷ ((q.entries.terms ++ (0 ∷ [])) ++ xs)) (length-append q.entries.terms (0 ∷ []))
      (sym (append_assoc (section_bytes q.equalities) (section_bytes q.reachability) _)
      ∙ ap (λ (xs : List ℕ). (section_bytes q.equalities ++ section_bytes q.reachability) ++ xs)
      (ap₂ (λ (x : ℕ) (xs : List ℕ). x ∷ xs)
      (length-append q.fields (map (as_field (suc (length q.entries.terms))) (flags booleans))
      ∙ ap (λ (k : ℕ). length q.fields + k) (length-map (flags booleans) (as_field (suc (length q.entries.terms)))))
      (ap (λ (xs : List ℕ). xs ++ (0 ∷ []))
      (flat_map-append literal_bytes q.fields (map (as_field (suc (length q.entries.terms))) (flags booleans))
      ∙ ap (λ (xs : List ℕ). flat_map literal_bytes q.fields ++ xs) (h ∙ ap (λ (t : ℕ). field_bytes t booleans) (sym (add-one (length q.entries.terms)))))
      ∙ append_assoc (flat_map literal_bytes q.fields) (field_bytes (length q.entries.terms + 1) booleans) (0 ∷ []))))

  rewritten_are : length booleans ≡ 2 * count → rewritten_bytes (term_count q) fourth (length q.fields) count
      (old_bytes q booleans) ≡ ((term_count
      q + 1) ∷ []) ++ ((q.entries.terms ++ (0 ∷ [])) ++ (middle ++ ((length q.fields + count) ∷ (fields ++ (field_bytes (term_count q + 1) booleans ++ (0 ∷ []))))))
  unfolding rewritten_bytes term_bytes data_bytes
  rewritten_are even = rw (entries-cut, middle-cut, fields-cut, booleans-cut even)

module _ (l : FullLayout) (bytes : List ℕ) (p : Passing l bytes) where
  abbrev pub base : Query
  base = (decode_old bytes).base

  abbrev pub part : List ℕ
  part = section (old_parts bytes p.accepted) 4

  four : LaysOutAs base l.layout bytes
  unfolding decode_old old_sections
  four = p.laid.four

  pub terms_are : l.layout.terms ≡ term_count base
  terms_are = four.term_count_lem

  pub equal_counted : l.layout.equal_count ≡ length base.equalities
  equal_counted = equal-count four

  pub reach_counted : l.layout.reach_count ≡ length base.reachability
  reach_counted = reach-count four

  pub field_counted : l.layout.field_count ≡ length base.fields
  field_counted = field_count four

  -- the booleans
  part_is : part ≡ take (2 * l.boolean_count) (drop l.boolean_at bytes)
  unfolding old_sections
  part_is =
      let same : parts (old_parts bytes p.accepted) ≡ parts p.laid.ps = sym (layout_is bytes p.accepted) ∙ p.laid.laid in
      let one : old_parts bytes p.accepted ≡ p.laid.ps = cc in
      ap (λ (qs : List (List ℕ)). section qs 4) one ∙ p.laid.boolean_are

  pub part_long : length part ≡ 2 * l.boolean_count
  part_long = ap length part_is ∙ length-take-le (2 * l.boolean_count) (drop l.boolean_at bytes) (omega (arith, length-drop l.boolean_at bytes, p.laid.boolean_fit))

  flag_counted : l.boolean_count ≡ length (flags part)
  flag_counted = sym (flags-count l.boolean_count part (part_long ∙ omega arith))

  pub boolean_counted : l.boolean_count ≡ length (decode_old bytes).booleans
  boolean_counted = flag_counted ∙ sym (ap length (booleans_are bytes p.accepted))

  -- how long the query is, where its fourth section stands, and what the code writes
  abbrev pub fourth_at : ℕ
  fourth_at = l.layout.terms + 3 * l.layout.equal_count + 3 * l.layout.reach_count + 3

  fourth_is : fourth_at ≡ fourth base part
  fourth_is = omega (arith, terms_are, equal_counted, reach_counted)

  pub bytes_long : fourth_at + 3 * l.layout.field_count + 2 * l.boolean_count + 2 ≡ length bytes
  bytes_long = omega (arith, ap length (old_written bytes p.accepted), old_length base part, fourth_is, field_counted, part_long)

  pub bytes_low : length bytes ≤ 700
  bytes_low = let f = four in omega (arith, bytes_long, f.terms_within, f.equal_within, f.reach_within, f.field_within, p.laid.boolean_within)

  -- "if they hold boolean literals, one fresh variable is added last"
  fresh_added : (q : Query) (bs : List Literal) → 0 < length bs → rewritten q bs ≡ with_fresh q bs
  unfolding rewritten
  fresh_added q [] h = absurd (omega arith)
  fresh_added q (b ∷ bs) h = refl

  module _ (some : l.boolean_count ≡ 0 → ⊥) where
    pub with_fresh_lem : rewrite_of bytes ≡ with_fresh base (flags part)
    unfolding rewrite
    with_fresh_lem =
        ap (rewritten base) (booleans_are bytes p.accepted)
        ∙ fresh_added base (flags part) (omega (arith, flag_counted, some))

    pub terms_more : term_count (rewrite_of bytes) ≡ l.layout.terms + 1
    unfolding term_count with_fresh
    terms_more = ap term_count with_fresh_lem ∙ length-append base.entries.terms (0 ∷ []) ∙ ap (λ (k : ℕ). k + 1) (sym terms_are)

    pub fields_more : length (rewrite_of bytes).fields ≡ l.layout.field_count + l.boolean_count
    unfolding with_fresh
    fields_more =
        ap (λ (q : Query). length q.fields) with_fresh_lem ∙ length-append base.fields (map (as_field (suc (term_count base))) (flags part))
        ∙ omega (arith, length-map (flags part) (as_field (suc (term_count base))), field_counted, flag_counted)

    -- what the code writes
    same_bytes : {n n' i i' f f' k k' : ℕ} {bs bs' : List ℕ} → n ≡ n' → i ≡ i' → f ≡ f' → k ≡ k' → bs ≡ bs' → rewritten_bytes n i f k bs ≡ rewritten_bytes n' i' f' k' bs'
    same_bytes a b c d e = cc

    pub written_is : rewritten_bytes l.layout.terms fourth_at l.layout.field_count l.boolean_count bytes ≡ encode (rewrite_of bytes)
    unfolding boolean_section
    written_is =
        let b = boolean_part_lem bytes p.accepted in
        same_bytes terms_are fourth_is field_counted flag_counted (sym (old_written bytes p.accepted))
        ∙ rewritten_are base part (part_long ∙ ap (λ (k : ℕ). 2 * k) flag_counted)
        ∙ sym (ap encode with_fresh_lem ∙ encoded base part (fields_are (suc (term_count base)) number_role b.count 1 part b.sized b.allowed))

    pub written_long : length (encode (rewrite_of bytes)) ≡ length bytes + l.boolean_count + 1
    unfolding with_fresh
    written_long =
        omega (
          arith,
          encode-length (rewrite_of bytes),
          terms_more,
          fields_more,
          ap (λ (q : Query). length q.equalities) with_fresh_lem,
          ap (λ (q : Query). length q.reachability) with_fresh_lem,
          equal_counted,
          reach_counted,
          bytes_long,
          fourth_is,
          terms_are,
        )
