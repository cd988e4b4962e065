-- The bytes that are written pass the checks for three links, and say the query with link 1. Assumes nothing.
use Prim.Native.Nat.{ℕ, suc, ◌+◌, ◌*◌, ◌≤◌, ◌<◌}
use native.Mathlib.Omega.{arith}
use native.Mathlib.Nat.{add-zero, add-suc, suc-add}
use mathlib.Core.Path.{◌≡◌, refl, sym, ap, ◌∙◌}
use mathlib.Core.Bool.{Bool, true, false, cond}
use mathlib.Core.List.{List, [], ◌∷◌, ◌++◌, map, Memᴰ}
use mathlib.Core.Option.{Option-elim, none}
use lib.ListN.{length, get_or, length-append}
use lib.Dec.{eqb}
use Rattle.logic.specs.Search.{◌and◌, ◌or◌, from, keep, is_some, or_else, first_of, flat_map}
use Rattle.logic.specs.Query.{Literal, Query, term_count, Role, entry_role, sign_role, term_role, count_role, boolean_section, parts, roles_of, first_byte, layout_by, fault_in, layout_fault, byte_fault, section}
use Rattle.logic.specs.Calls.{layout_check, byte_check, refusal_of, accepts_by}
use Rattle.logic.specs.ThreeLinks.{link_sections, is_link, may_precede, entry_link_fault, reach_link_fault, link_fault, link_check}
use Rattle.logic.specs.ThreeLinks.{link_checks, firsts, seconds, linked_literals, linked_query, decode_links, three_link_form}
use Rattle.theory.proofs.Basics.Count.{length-flat_map}
use Rattle.theory.proofs.Query.Tied.{InTerms}
use Rattle.theory.proofs.Query.Bytes.{Allows, Allowed}
use Rattle.encoding.specs.QueryBytes.{literal_bytes, section_bytes}
use Rattle.encoding.proofs.Encoded.{sign_reads, AboutOne, literals_read, layout-part, layout-none, allowed_faultless}
use Rattle.encoding.proofs.Encoded.{sign_allowed, literals-allowed, literal-bytes, section-allowed, roles-none, none_allowed}
use Rattle.encoding.proofs.Encoded.{Limits, within_limits_lem, Encodable, entry_allowed, term_allowed, number_allowed}
use Rattle.link_rewriting.specs.LinkedQuery.{link_before, with_link_one, entry_bytes, reach_bytes, encode_links}

-- Entries of two bytes

entries_long : (bs : List ℕ) → length (flat_map entry_bytes bs) ≡ length bs * 2
unfolding entry_bytes
entries_long bs = length-flat_map entry_bytes 2 (λ b. refl) bs

seconds_are : (bs : List ℕ) → seconds (flat_map entry_bytes bs) ≡ bs
unfolding seconds flat_map entry_bytes
seconds_are [] = refl
seconds_are (b ∷ bs) = ap (λ (xs : List ℕ). b ∷ xs) (seconds_are bs)

firsts_are : (bs : List ℕ) → firsts (flat_map entry_bytes bs) ≡ map link_before bs
unfolding firsts flat_map entry_bytes
firsts_are [] = refl
firsts_are (b ∷ bs) = ap (λ (xs : List ℕ). link_before b ∷ xs) (firsts_are bs)

-- the link that is written may stand before its byte
may_precede_lem : (b : ℕ) → may_precede (link_before b) b ≡ true
unfolding may_precede link_before is_link ◌and◌
may_precede_lem b = go (eqb b 0 or eqb b 255)
  where
    go : (c : Bool) → cond c (eqb (cond c 0 1) 0) (is_link (cond c 0 1)) ≡ true
    go true = refl
    go false = refl

entries_linked : (place : ℕ) (bs : List ℕ) → entry_link_fault place (flat_map entry_bytes bs) ≡ none
unfolding entry_link_fault flat_map entry_bytes keep or_else
entries_linked place [] = refl
entries_linked place (b ∷ bs) = rw (may_precede_lem b) (entries_linked (place + 2) bs)

-- entry j is allowed by its roles
entries-allowed : (i : ℕ) (bs : List ℕ) → ((j : ℕ) → j < length bs → Allows (entry_role (i + j)) (get_or bs j 0)) →
    Allowed (flat_map (λ j. count_role ∷ entry_role j ∷ []) (from (length bs) i)) (flat_map entry_bytes bs)
unfolding flat_map from entry_bytes count_role
entries-allowed i [] h = tt
entries-allowed i (b ∷ bs) h = (
  λ checked. absurd (omega (arith, checked.0)),
  (rw (← add-zero i) (h 0 (omega arith)), entries-allowed (suc i) bs (λ j l. rw (suc-add, ← add-suc) (h (suc j) (omega arith)))),
)

-- Reachability literals of four bytes

reach_long : (ls : List Literal) → length (flat_map reach_bytes ls) ≡ length ls * 4
unfolding reach_bytes
reach_long ls = length-flat_map reach_bytes 4 (λ l. refl) ls

reach_read : (ls : List Literal) → AboutOne ls → linked_literals (flat_map reach_bytes ls) ≡ ls
unfolding linked_literals flat_map reach_bytes
reach_read [] one = refl
reach_read (l ∷ ls) one =
    let e : 1 ≡ l.link = sym (one l (Memᴰ.head refl)) in
    rw (sign_reads l.plain, reach_read ls (λ x m. one x (Memᴰ.tail m))) (λ i. record { plain = l.plain; link = e i; left = l.left; right = l.right } ∷ ls)

reach_linked : (place : ℕ) (ls : List Literal) → reach_link_fault place (flat_map reach_bytes ls) ≡ none
unfolding reach_link_fault flat_map reach_bytes is_link ◌and◌ keep or_else
reach_linked place [] = refl
reach_linked place (l ∷ ls) = reach_linked (place + 4) ls

reach-allowed : (role : Role) (i : ℕ) (ls : List Literal) → ((l : Literal) → Memᴰ l ls → Allows role l.left × Allows role l.right) →
    Allowed (flat_map (λ j. sign_role ∷ count_role ∷ role ∷ role ∷ []) (from (length ls) i)) (flat_map reach_bytes ls)
unfolding flat_map from reach_bytes count_role
reach-allowed role i [] h = tt
reach-allowed role i (l ∷ ls) h =
    let here = h l (Memᴰ.head refl) in
    (sign_allowed l.plain, (λ checked. absurd (omega (arith, checked.0)), (here.0, (here.1, reach-allowed role (suc i) ls (λ x m. h x (Memᴰ.tail m))))))

-- Queries

module _ (q : Query) (ok : Encodable q) where
  unfoldable entry : List ℕ
  entry = flat_map entry_bytes q.entries.terms

  unfoldable equal : List ℕ
  equal = flat_map literal_bytes q.equalities

  unfoldable reach : List ℕ
  reach = flat_map reach_bytes q.reachability

  unfoldable field : List ℕ
  field = flat_map literal_bytes q.fields

  unfoldable tail5 : List ℕ
  tail5 = 0 ∷ ([] ++ [])

  unfoldable tail4 : List ℕ
  tail4 = length q.fields ∷ (field ++ tail5)

  unfoldable tail3 : List ℕ
  tail3 = length q.reachability ∷ (reach ++ tail4)

  unfoldable tail2 : List ℕ
  tail2 = length q.equalities ∷ (equal ++ tail3)

  bytes_are : encode_links q ≡ term_count q ∷ (entry ++ tail2)
  unfolding encode_links section_bytes entry equal reach field tail5 tail4 tail3 tail2
  bytes_are = refl

  limits : Limits q
  limits = within_limits_lem q ok.within

  layout_are : layout_by link_sections (encode_links q) ≡ parts (entry ∷ equal ∷ reach ∷ field ∷ [] ∷ [])
  unfolding layout_by link_sections boolean_section first_byte term_count entry equal reach field tail5 tail4 tail3 tail2
  layout_are =
      ap (layout_by link_sections) bytes_are
      ∙ layout-part _ _ 0 (term_count q) entry tail2 _ limits.terms (entries_long q.entries.terms)
      (layout-part _ _ _ (length q.equalities) equal tail3 _ limits.equalities (literal-bytes q.equalities)
      (layout-part _ _ _ (length q.reachability) reach tail4 _ limits.reachability (reach_long q.reachability)
      (layout-part _ _ _ (length q.fields) field tail5 _ limits.fields (literal-bytes q.fields)
      (layout-part _ _ _ 0 [] [] _ (omega arith) refl (layout-none _)))))

  -- what is written says the query with link 1
  pub links_decoded : decode_links (encode_links q) ≡ with_link_one q
  unfolding decode_links linked_query with_link_one section entry equal reach field
  links_decoded =
      let f = ok.one_linked in
      ap linked_query layout_are
      ∙ (λ i.
      record {
        links = 3;
        entries = record { terms = seconds_are q.entries.terms i; links = firsts_are q.entries.terms i };
        equalities = literals_read q.equalities f.equalities i;
        reachability = reach_read q.reachability f.reachability i;
        fields = literals_read q.fields f.fields i;
      })

  both : (l : Literal) → InTerms q l.left × InTerms q l.right → Allows (term_role (term_count q)) l.left × Allows (term_role (term_count q)) l.right
  both l t = (term_allowed q ok.accepted l.left t.0, term_allowed q ok.accepted l.right t.1)

  allowed : Allowed (roles_of (link_sections (first_byte (encode_links q))) (encode_links q)) (encode_links q)
  unfolding link_sections boolean_section first_byte term_count entry equal reach field tail5 tail4 tail3 tail2
  allowed =
      rw bytes_are
      (section-allowed _ _ (term_count q) entry tail2 (λ i. refl) (entries_long q.entries.terms) (entries-allowed 1 q.entries.terms (entry_allowed q ok.accepted))
      (section-allowed _ _ (length q.equalities) equal tail3 (λ i. refl) (literal-bytes q.equalities) (literals-allowed _ _ 1 q.equalities (λ l m. both l (ok.accepted.equal_terms l m)))
      (section-allowed _ _ (length q.reachability) reach tail4 (λ i. refl) (reach_long q.reachability) (reach-allowed _ 1 q.reachability (λ l m. both l (ok.accepted.reach_terms l m)))
      (section-allowed _ _ (length q.fields) field tail5 (λ i. refl) (literal-bytes q.fields)
      (literals-allowed _ _ 1 q.fields
      (λ l m. (number_allowed q ok.accepted l.left (ok.accepted.field_number l m), term_allowed q ok.accepted l.right (ok.accepted.field_term l m))))
      (section-allowed _ _ 0 [] [] (λ i. refl) refl (none_allowed _) roles-none)))))

  layout_passed : (k : ℕ) → layout_fault link_sections k (encode_links q) ≡ none
  unfolding layout_fault fault_in
  layout_passed k = ap (fault_in k) layout_are

  link_passed : link_fault (layout_by link_sections (encode_links q)) ≡ none
  unfolding link_fault section entry reach or_else
  link_passed = ap link_fault layout_are ∙ rw (entries_linked 1 q.entries.terms) (reach_linked _ q.reachability)

  byte_passed : (k : ℕ) → 5 ≤ k → k ≤ 8 → byte_fault link_sections k (encode_links q) ≡ none
  unfolding byte_fault
  byte_passed k low high = allowed_faultless 0 _ (encode_links q) allowed k low high

  -- the calls for three links accept it
  pub links_accepted : accepts_by three_link_form (encode_links q) ≡ true
  unfolding accepts_by refusal_of link_checks link_check layout_check byte_check first_of or_else is_some Option-elim
  links_accepted =
      rw (
        layout_passed 2,
        layout_passed 3,
        layout_passed 26,
        layout_passed 4,
        link_passed,
        byte_passed 5 (omega arith) (omega arith),
        byte_passed 6 (omega arith) (omega arith),
        byte_passed 7 (omega arith) (omega arith),
        byte_passed 8 (omega arith) (omega arith),
      )

  -- each term takes a byte more than in the old layout, and each reachability literal
  pub links-length : length (encode_links q) ≡ 2 * term_count q + 3 * length q.equalities + 4 * length q.reachability + 3 * length q.fields + 5
  unfolding term_count entry equal reach field tail5 tail4 tail3 tail2
  links-length =
      ap length bytes_are
      ∙ omega (
        arith,
        length-append entry tail2,
        length-append equal tail3,
        length-append reach tail4,
        length-append field tail5,
        entries_long q.entries.terms,
        literal-bytes q.equalities,
        reach_long q.reachability,
        literal-bytes q.fields,
      )

  pub links-within : length (encode_links q) ≤ 637
  links-within = omega (arith, links-length, limits.terms, limits.equalities, limits.reachability, limits.fields)
