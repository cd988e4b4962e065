-- Six sections from what is known of the first five: the walk from the front, the single bytes, and what the query says.
use Prim.Native.Nat.{ℕ, zero, suc, ◌+◌, ◌*◌, ◌≤◌, ◌<◌}
use native.Mathlib.Omega.{arith}
use native.Mathlib.Nat.{mul-one, zero-add}
use native.Mathlib.Numerals.{add-one}
use mathlib.Core.Path.{◌≡◌, refl, sym, ap, ap₂, ◌∙◌}
use mathlib.Core.Bool.{Bool, true, false, not}
use mathlib.Core.List.{List, [], ◌∷◌, ◌++◌, append_assoc, append-nil}
use mathlib.Core.Option.{none}
use lib.ListN.{length, get_or, take, drop, length-append, length-drop, take-append-drop}
use lib.Seq.{take-length, length-take-le, take_at, drop-length, drop-append-le}
use lib.Dec.{eqb, leb}
use borrow.Author.Tests.{leb-true}
use Rattle.logic.specs.Search.{◌and◌, from, flat_map, keep, or_else}
use Rattle.logic.specs.Query.{Role, Section, count_role, sign_role, term_role, four_sections, boolean_section, five_sections, sections, faulty, parts}
use Rattle.logic.specs.Query.{with_part, layout, roles_of, first_byte, layout_by, layout_of, role_fault, byte_fault, section, query_of, decode, term_count}
use Rattle.theory.proofs.Query.Bytes.{Regular, first-sized, faulty_parts, with_part-parts, flat_map-length}
use Rattle.query.proofs.Reading.{above, short, passed}
use Rattle.entries.proofs.Loops.{drop_next}
use Rattle.query.specs.Sections.{Stands}
use Rattle.between_search.specs.Bytes.{between_section, six_sections, six_layout, triples, betweens_of, decode_six}
use Rattle.between_search.proofs.Layouts.{prepend, cond-parts, parts-length, prepend-parts, layout-append}
use Rattle.between_search.proofs.SixLayout.{five_not_four, followed, early_fault, ends_early, role_append}
use Rattle.between_checks.specs.Answers.{triple_roles, sixth_fault, Sixth}

prepend_faulty : (ps : List (List ℕ)) (k place : ℕ) → prepend ps (faulty k place) ≡ faulty k place
unfolding prepend with_part
prepend_faulty [] k place = refl
prepend_faulty (p ∷ ps) k place = ap (with_part p) (prepend_faulty ps k place)

-- refusals 2, 3 and 26 of the five are those of the six, and five sections alone end before the sixth's count
pub early : (bytes : List ℕ) (k place : ℕ) → (k ≡ 4 → ⊥) → layout_of bytes ≡ faulty k place → six_layout bytes ≡ faulty k place
unfolding layout_of layout_by six_layout six_sections
early bytes k place l h = early_fault (sections (first_byte bytes)) (between_section (first_byte bytes) ∷ []) 0 bytes k place l h

pub ended : (bytes : List ℕ) (ps : List (List ℕ)) → layout_of bytes ≡ parts ps → six_layout bytes ≡ faulty 2 (length bytes)
unfolding layout_of layout_by six_layout six_sections
ended bytes ps h = ends_early (sections (first_byte bytes)) [] (between_section (first_byte bytes)) 0 bytes ps h ∙ ap (faulty 2) (zero-add (length bytes))

-- the sixth section, whose count stands at `at`
module _ (n : ℕ) (bytes : List ℕ) (at : ℕ) (h : at < length bytes) where
  pub sixth-above : 60 < get_or bytes at 0 → layout (between_section n ∷ []) at (drop at bytes) ≡ faulty 3 at
  unfolding between_section
  sixth-above e = above (between_section n) [] bytes at h e

  pub sixth-short : get_or bytes at 0 ≤ 60 → length bytes < at + 1 + get_or bytes at 0 * 4 → layout (between_section n ∷ []) at (drop at bytes) ≡ faulty 2 (length bytes)
  unfolding between_section
  sixth-short e f = short (between_section n) [] bytes at h e f

  pub sixth_trails : get_or bytes at 0 ≤ 60 → at + 1 + get_or bytes at 0 * 4 < length bytes → layout (between_section n ∷ []) at (drop at bytes) ≡ faulty 4 (at + 1 + get_or bytes at 0 * 4)
  unfolding between_section layout with_part
  sixth_trails e f =
      passed (between_section n) [] bytes at (get_or bytes at 0) (at + 1 + get_or bytes at 0 * 4) (record { counted = h; count_is = refl; within = e; next_is = refl; fits = omega arith })
      ∙ ap (λ (xs : List ℕ). with_part (take (get_or bytes at 0 * 4) (drop (at + 1) bytes)) (layout [] (at + 1 + get_or bytes at 0 * 4) xs)) (drop_next bytes (at + 1 + get_or bytes at 0 * 4) f)

-- The five sections end at `at`

pub record Five (bytes : List ℕ) (at : ℕ) : Type 0 where
  pub counted : at < length bytes
  pub first_same : first_byte (take at bytes) ≡ first_byte bytes
  pub laid_parts : List (List ℕ)
  pub laid : layout (sections (first_byte bytes)) 0 (take at bytes) ≡ parts laid_parts

not_empty : (n : ℕ) → sections n ≡ [] → ⊥
unfolding sections five_sections four_sections
not_empty n e = let z : ◌≡◌ {A = ℕ} 1 0 = cc in omega arith

positive : (ss : List Section) (at : ℕ) (bytes : List ℕ) (ps : List (List ℕ)) → (ss ≡ [] → ⊥) → layout ss 0 (take at bytes) ≡ parts ps → 0 < at
unfolding layout
positive [] at bytes ps d h = absurd (d refl)
positive (s ∷ ss) zero bytes ps d h = absurd (faulty_parts h)
positive (s ∷ ss) (suc at) bytes ps d h = omega arith

first_taken : (at : ℕ) (bytes : List ℕ) → 0 < at → first_byte (take at bytes) ≡ first_byte bytes
unfolding first_byte
first_taken zero bytes h = absurd (omega arith)
first_taken (suc at) [] h = refl
first_taken (suc at) (b ∷ bytes) h = refl

pub five : (bytes : List ℕ) (at : ℕ) → layout_of bytes ≡ faulty 4 at → Five bytes at
unfolding layout_of layout_by
five bytes at h =
    let r = followed (sections (first_byte bytes)) (five_not_four (first_byte bytes)) 0 bytes at h in
    let size : length r.front ≡ at = omega (arith, r.placed) in
    let front : take at bytes ≡ r.front = ap (take at) r.whole ∙ take_at r.front r.back at size in
    let laid : layout (sections (first_byte bytes)) 0 (take at bytes) ≡ parts r.laid_parts = ap (layout (sections (first_byte bytes)) 0) front ∙ r.laid in
    let more : 0 < at = positive (sections (first_byte bytes)) at bytes r.laid_parts (not_empty (first_byte bytes)) laid in
    record {
      counted = let e = ap length r.whole ∙ length-append r.front r.back in omega (arith, e, size, r.more_left);
      first_same = first_taken at bytes more;
      laid_parts = r.laid_parts;
      laid = laid;
    }

-- parts and roles of the five, and then of the sixth

and_never : (a : Bool) → a and not true ≡ false
unfolding ◌and◌
and_never true = refl
and_never false = refl

-- as many roles as bytes, and those of what follows behind them
roles-append : (ss ts : List Section) (place : ℕ) (front back : List ℕ) (ps : List (List ℕ)) → Regular ss → layout ss place front ≡ parts ps →
    (roles_of (ss ++ ts) (front ++ back) ≡ roles_of ss front ++ roles_of ts back) × (length (roles_of ss front) ≡ length front)
unfolding layout roles_of
roles-append [] ts place [] back ps r h = (refl, refl)
roles-append [] ts place (c ∷ more) back ps r h = absurd (faulty_parts h)
roles-append (s ∷ ss) ts place [] back ps r h = absurd (faulty_parts h)
roles-append (s ∷ ss) ts place (c ∷ more) back ps r h =
    let a = cond-parts (leb c s.limit) _ s.excess place ps h in
    let b = cond-parts (leb (c * s.width) (length more)) _ 2 (suc place + length more) ps a.1 in
    let w = with_part-parts (take (c * s.width) more) (layout ss (suc place + c * s.width) (drop (c * s.width) more)) ps b.1 in
    let fits : c * s.width ≤ length more = leb-true (c * s.width) (length more) b.0 in
    let ih = roles-append ss ts (suc place + c * s.width) (drop (c * s.width) more) back w.0 r.1 w.1 in (
      ap (λ (rs : List Role). count_role ∷ rs)
          (ap (λ (xs : List ℕ). flat_map s.roles (from c 1) ++ roles_of (ss ++ ts) xs) (drop-append-le (c * s.width) more back fits)
          ∙ ap (λ (rs : List Role). flat_map s.roles (from c 1) ++ rs) ih.0
          ∙ sym (append_assoc (flat_map s.roles (from c 1)) (roles_of ss (drop (c * s.width) more)) (roles_of ts back))),
      ap suc (length-append (flat_map s.roles (from c 1)) (roles_of ss (drop (c * s.width) more))
          ∙ omega (arith, flat_map-length s.roles s.width r.0 c 1, ih.1, length-drop (c * s.width) more, fits)),
    )

five_regular : (n : ℕ) → Regular (sections n)
unfolding sections five_sections four_sections boolean_section
five_regular n = (λ i. refl, (λ i. refl, (λ i. refl, (λ i. refl, (λ i. refl, tt)))))

-- the part behind the others, and those before it
section_last : (ps : List (List ℕ)) (p : List ℕ) (i : ℕ) → i ≡ length ps → section (ps ++ (p ∷ [])) i ≡ p
unfolding section
section_last [] p zero e = refl
section_last [] p (suc i) e = absurd (omega arith)
section_last (q ∷ ps) p zero e = absurd (omega arith)
section_last (q ∷ ps) p (suc i) e = section_last ps p i (omega arith)

section_before : (ps : List (List ℕ)) (p : List ℕ) (i : ℕ) → i < length ps → section (ps ++ (p ∷ [])) i ≡ section ps i
unfolding section
section_before [] p i h = absurd (omega arith)
section_before (q ∷ ps) p zero h = refl
section_before (q ∷ ps) p (suc i) h = section_before ps p i (omega arith)

no_refusal : (k count i place n : ℕ) (bytes : List ℕ) → eqb 6 k ≡ false → eqb 7 k ≡ false → role_fault k place (flat_map (triple_roles n) (from count i)) bytes ≡ none
unfolding role_fault flat_map from sign_role term_role keep or_else ◌and◌
no_refusal k zero i place n bytes a b = refl
no_refusal k (suc count) i place n [] a b = refl
no_refusal k (suc count) i place n (s ∷ []) a b = rw a
no_refusal k (suc count) i place n (s ∷ x ∷ []) a b = rw (a, b)
no_refusal k (suc count) i place n (s ∷ x ∷ y ∷ []) a b = rw (a, b)
no_refusal k (suc count) i place n (s ∷ x ∷ y ∷ z ∷ bytes) a b = rw (a, b) (no_refusal k count (suc i) (suc (suc (suc (suc place)))) n bytes a b)

pub sixth_other : (k n at count : ℕ) (bytes : List ℕ) → eqb 6 k ≡ false → eqb 7 k ≡ false → sixth_fault k n at count bytes ≡ none
unfolding sixth_fault
sixth_other k n at count bytes a b = no_refusal k count 1 at n (drop at bytes) a b

module _ (bytes : List ℕ) (at : ℕ) (f : Five bytes at) where
  abbrev n : ℕ
  n = first_byte bytes

  front_size : length (take at bytes) ≡ at
  front_size = length-take-le at bytes (omega (arith, f.counted))

  -- the walk from the front, behind the five
  behind : six_layout bytes ≡ prepend f.laid_parts (layout (between_section n ∷ []) at (drop at bytes))
  unfolding six_layout layout_by six_sections
  behind =
      ap (layout (sections n ++ (between_section n ∷ [])) 0) (sym (take-append-drop at bytes))
      ∙ layout-append (sections n) (between_section n ∷ []) 0 (take at bytes) (drop at bytes) f.laid_parts f.laid
      ∙ ap (λ (p : ℕ). prepend f.laid_parts (layout (between_section n ∷ []) p (drop at bytes))) (zero-add (length (take at bytes)) ∙ front_size)

  pub sixth_refused : (k place : ℕ) → layout (between_section n ∷ []) at (drop at bytes) ≡ faulty k place → six_layout bytes ≡ faulty k place
  sixth_refused k place h = behind ∙ ap (prepend f.laid_parts) h ∙ prepend_faulty f.laid_parts k place

  pub laid_five : layout_of (take at bytes) ≡ parts f.laid_parts
  unfolding layout_of layout_by
  laid_five = ap (λ (m : ℕ). layout (sections m) 0 (take at bytes)) f.first_same ∙ f.laid

  pub terms_five : term_count (decode (take at bytes)) ≡ first_byte bytes
  unfolding decode query_of term_count sections five_sections four_sections
  terms_five = rw laid_five (first-sized _ _ 0 (take at bytes) f.laid_parts f.laid ∙ mul-one (first_byte (take at bytes)) ∙ f.first_same)

  module _ (count : ℕ) (sixth : Sixth bytes at count) where
    -- the sixth's part is what follows its count
    last : layout (between_section n ∷ []) at (drop at bytes) ≡ parts (drop (at + 1) bytes ∷ [])
    unfolding layout with_part between_section
    last =
        passed (between_section n) [] bytes at count (length bytes) stands
        ∙ ap (with_part (take (count * 4) (drop (at + 1) bytes))) (ap (layout [] (length bytes)) (drop-length bytes))
        ∙ ap (λ (p : List ℕ). parts (p ∷ [])) whole
      where
        stands : Stands bytes 60 4 at count (length bytes)
        stands = record { counted = sixth.counted; count_is = sixth.count_is; within = sixth.within; next_is = sym sixth.ends; fits = omega arith }

        size : count * 4 ≡ length (drop (at + 1) bytes)
        size = rw length-drop (omega (arith, sixth.ends))

        whole : take (count * 4) (drop (at + 1) bytes) ≡ drop (at + 1) bytes
        whole = ap (λ (m : ℕ). take m (drop (at + 1) bytes)) size ∙ take-length (drop (at + 1) bytes)

    pub six_laid : six_layout bytes ≡ parts (f.laid_parts ++ (drop (at + 1) bytes ∷ []))
    six_laid = behind ∙ ap (prepend f.laid_parts) last ∙ prepend-parts f.laid_parts (drop (at + 1) bytes ∷ [])

    five-parts : length f.laid_parts ≡ 5
    unfolding sections five_sections four_sections
    five-parts = parts-length (sections n) 0 (take at bytes) f.laid_parts f.laid

    pub six_says : decode_six bytes ≡ record { base = decode (take at bytes); betweens = triples (drop (at + 1) bytes) }
    unfolding decode_six decode query_of betweens_of
    six_says =
        rw (
          six_laid,
          laid_five,
          section_before f.laid_parts (drop (at + 1) bytes) 0 (omega (arith, five-parts)),
          section_before f.laid_parts (drop (at + 1) bytes) 1 (omega (arith, five-parts)),
          section_before f.laid_parts (drop (at + 1) bytes) 2 (omega (arith, five-parts)),
          section_before f.laid_parts (drop (at + 1) bytes) 3 (omega (arith, five-parts)),
          section_last f.laid_parts (drop (at + 1) bytes) 5 (sym five-parts),
        )

    -- the single bytes: first in the five, then in the sixth
    pub six_fault : (k : ℕ) → byte_fault six_sections k bytes ≡ or_else (byte_fault sections k (take at bytes)) (sixth_fault k n (at + 1) count bytes)
    unfolding six_sections byte_fault sixth_fault between_section roles_of role_fault count_role keep or_else
    six_fault k =
        let r = roles-append (sections n) (between_section n ∷ []) 0 (take at bytes) (drop at bytes) f.laid_parts (five_regular n) f.laid in
        ap (λ (xs : List ℕ). role_fault k 0 (roles_of (sections n ++ (between_section n ∷ [])) xs) xs) (sym (take-append-drop at bytes))
        ∙ ap (λ (rs : List Role). role_fault k 0 rs (take at bytes ++ drop at bytes)) r.0
        ∙ role_append k 0 (roles_of (sections n) (take at bytes)) (roles_of (between_section n ∷ []) (drop at bytes)) (take at bytes) (drop at bytes) r.1
        ∙ ap₂ or_else (ap (λ (m : ℕ). role_fault k 0 (roles_of (sections m) (take at bytes)) (take at bytes)) (sym f.first_same))
        (ap (λ (p : ℕ). role_fault k p (roles_of (between_section n ∷ []) (drop at bytes)) (drop at bytes)) (zero-add (length (take at bytes)) ∙ front_size) ∙ sixth-bytes)
      where
        sixth-bytes : role_fault k at (roles_of (between_section n ∷ []) (drop at bytes)) (drop at bytes) ≡ sixth_fault k n (at + 1) count bytes
        sixth-bytes =
            rw (drop_next bytes at sixth.counted, sixth.count_is)
            (ap (λ (b : Bool). or_else (keep b at)
            (role_fault k (suc at) (flat_map (triple_roles n) (from count 1) ++ roles_of [] (drop (count * 4) (drop (at + 1) bytes)))
            (drop (at + 1) bytes))) (and_never (eqb 0 k))
            ∙ ap₂ (λ (p : ℕ) (rs : List Role). role_fault k p rs (drop (at + 1) bytes)) (sym (add-one at)) (append-nil (flat_map (triple_roles n) (from count 1))))
