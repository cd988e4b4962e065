-- A query of five sections with an empty sixth says what the five say.
use Prim.Native.Nat.{ℕ, zero, suc, ◌+◌, ◌*◌, ◌≤◌}
use native.Mathlib.Omega.{arith}
use mathlib.Core.Path.{◌≡◌, refl, sym, ap, ◌∙◌}
use mathlib.Core.Bool.{Bool, true, false, cond}
use mathlib.Core.List.{List, [], ◌∷◌, ◌++◌}
use lib.ListN.{length, get_or, take, drop, length-append, length-drop}
use lib.Seq.{take-append-le, drop-append-le}
use lib.Dec.{leb}
use borrow.Author.Tests.{leb-true, le-leb}
use Rattle.logic.specs.Query.{Section, four_sections, five_sections, sections, Layout, faulty, parts, with_part, layout, first_byte, layout_by, layout_of, section, query_of, decode}
use Rattle.theory.proofs.Query.Bytes.{faulty_parts, with_part-parts}
use Rattle.between_search.specs.Bytes.{between_section, six_sections, six_layout, triples, betweens_of, decode_six}

-- parts in front of what a layout has
unfoldable pub prepend : List (List ℕ) → Layout → Layout
prepend [] l = l
prepend (p ∷ ps) l = with_part p (prepend ps l)

pub cond-parts : (b : Bool) (l : Layout) (k place : ℕ) (ps : List (List ℕ)) → cond b l (faulty k place) ≡ parts ps → (b ≡ true) × (l ≡ parts ps)
cond-parts true l k place ps h = (refl, h)
cond-parts false l k place ps h = absurd (faulty_parts h)

pub layout-append : (ss ts : List Section) (place : ℕ) (front back : List ℕ) (ps : List (List ℕ)) → layout ss place front ≡ parts ps →
    layout (ss ++ ts) place (front ++ back) ≡ prepend ps (layout ts (place + length front) back)
unfolding layout prepend
layout-append [] ts place [] back ps h = let e : place ≡ place + 0 = omega arith in ap (λ (p : ℕ). layout ts p back) e ∙ ap (λ (xs : List (List ℕ)). prepend xs (layout ts (place + 0) back)) none
  where
    none : [] ≡ ps
    none = cc
layout-append [] ts place (c ∷ more) back ps h = absurd (faulty_parts h)
layout-append (s ∷ ss) ts place [] back ps h = absurd (faulty_parts h)
layout-append (s ∷ ss) ts place (c ∷ more) back ps h =
    let size : ℕ = c * s.width in
    let a = cond-parts (leb c s.limit) _ s.excess place ps h in
    let b = cond-parts (leb (c * s.width) (length more)) _ 2 (suc place + length more) ps a.1 in
    let w = with_part-parts (take (c * s.width) more) (layout ss (suc place + c * s.width) (drop (c * s.width) more)) ps b.1 in
    let fits : c * s.width ≤ length more = leb-true (c * s.width) (length more) b.0 in
    let longer : leb (c * s.width) (length (more ++ back)) ≡ true = le-leb (c * s.width) (length (more ++ back)) (omega (arith, length-append more back, fits)) in
    let ih = layout-append ss ts (suc place + c * s.width) (drop (c * s.width) more) back w.0 w.1 in
    let at : suc place + c * s.width + length (drop (c * s.width) more) ≡ place + suc (length more) = omega (arith, length-drop (c * s.width) more, fits) in
    rw (a.0, longer, take-append-le (c * s.width) more back fits, drop-append-le (c * s.width) more back fits)
    (ap (with_part (take (c * s.width) more)) (ih ∙ ap (λ (p : ℕ). prepend w.0 (layout ts p back)) at)
    ∙ ap (λ (xs : List (List ℕ)). prepend xs (layout ts (place + suc (length more)) back)) (sym w.2))

pub prepend-parts : (ps qs : List (List ℕ)) → prepend ps (parts qs) ≡ parts (ps ++ qs)
unfolding prepend with_part
prepend-parts [] qs = refl
prepend-parts (p ∷ ps) qs = ap (with_part p) (prepend-parts ps qs)

pub parts-length : (ss : List Section) (place : ℕ) (bytes : List ℕ) (ps : List (List ℕ)) → layout ss place bytes ≡ parts ps → length ps ≡ length ss
unfolding layout
parts-length [] place [] ps h = let e : [] ≡ ps = cc in ap length (sym e)
parts-length [] place (c ∷ more) ps h = absurd (faulty_parts h)
parts-length (s ∷ ss) place [] ps h = absurd (faulty_parts h)
parts-length (s ∷ ss) place (c ∷ more) ps h =
    let a = cond-parts (leb c s.limit) _ s.excess place ps h in
    let b = cond-parts (leb (c * s.width) (length more)) _ 2 (suc place + length more) ps a.1 in
    let w = with_part-parts (take (c * s.width) more) (layout ss (suc place + c * s.width) (drop (c * s.width) more)) ps b.1 in
    ap length w.2 ∙ ap suc (parts-length ss (suc place + c * s.width) (drop (c * s.width) more) w.0 w.1)

-- the sections of a query do not change by what follows them
section_front : (ps : List (List ℕ)) (i : ℕ) → section (ps ++ ([] ∷ [])) i ≡ section ps i
unfolding section
section_front [] zero = refl
section_front [] (suc i) = refl
section_front (p ∷ ps) zero = refl
section_front (p ∷ ps) (suc i) = section_front ps i

module _ (bytes : List ℕ) (ps : List (List ℕ)) (laid : layout_of bytes ≡ parts ps) where
  first_kept : first_byte (bytes ++ (0 ∷ [])) ≡ first_byte bytes
  unfolding first_byte
  first_kept = go bytes
    where
      go : (xs : List ℕ) → get_or (xs ++ (0 ∷ [])) 0 0 ≡ get_or xs 0 0
      go [] = refl
      go (x ∷ xs) = refl

  pub six_laid : six_layout (bytes ++ (0 ∷ [])) ≡ parts (ps ++ ([] ∷ []))
  unfolding six_layout six_sections layout_of layout_by layout between_section with_part
  six_laid =
      rw first_kept
      (layout-append (sections (first_byte bytes)) (between_section (first_byte bytes) ∷ []) 0 bytes (0 ∷ []) ps laid ∙ prepend-parts ps ([] ∷ []))

  pub base_same : (decode_six (bytes ++ (0 ∷ []))).base ≡ decode bytes
  unfolding decode_six decode query_of
  base_same = ap query_of six_laid ∙ same ∙ ap query_of (sym laid)
    where
      same : query_of (parts (ps ++ ([] ∷ []))) ≡ query_of (parts ps)
      same = rw (section_front ps 0, section_front ps 1, section_front ps 2, section_front ps 3)

  -- five sections have five parts
  five-parts : length ps ≡ 5
  unfolding layout_of layout_by sections five_sections four_sections
  five-parts = parts-length (sections (first_byte bytes)) 0 bytes ps laid

  pub betweens-none : (decode_six (bytes ++ (0 ∷ []))).betweens ≡ []
  unfolding decode_six betweens_of triples section
  betweens-none = ap betweens_of six_laid ∙ ap triples (section_front ps 5 ∙ beyond ps 5 (omega (arith, five-parts)))
    where
      beyond : (qs : List (List ℕ)) (k : ℕ) → length qs ≤ k → section qs k ≡ []
      beyond [] zero e = refl
      beyond [] (suc k) e = refl
      beyond (x ∷ qs) zero e = absurd (omega arith)
      beyond (x ∷ qs) (suc k) e = beyond qs k (omega arith)
