-- The places of refusals 2 to 8: none is past the query's end, or past that of the longest query.
use Prim.Native.Nat.{ℕ, suc, ◌+◌, ◌*◌, ◌≤◌, ◌<◌}
use native.Mathlib.Omega.{arith}
use native.Mathlib.Nat.{mul-le-mul, le_refl}
use mathlib.Core.Path.{◌≡◌, refl, subst}
use mathlib.Core.Logic.{⊎_elim}
use mathlib.Core.Bool.{not}
use mathlib.Core.List.{List, [], ◌∷◌}
use mathlib.Core.Option.{none, some}
use lib.ListN.{length, take, drop, length-drop}
use lib.Dec.{eqb, leb}
use borrow.Author.Tests.{leb-true, leb-false}
use Rattle.logic.specs.Search.{◌and◌, keep}
use Rattle.logic.specs.Query.{Role, Section, Form, four_sections, boolean_section, five_sections, sections, Layout, faulty}
use Rattle.logic.specs.Query.{parts, with_part, layout, first_byte, layout_by, fault_in, layout_fault, role_fault, byte_fault}
use Rattle.theory.proofs.Basics.Search.{none-some, keep_some, or_else_cases}
use Rattle.theory.proofs.Query.Bytes.{cond_elim, LayoutNumber, Excesses}
use Rattle.theory.proofs.Query.AcceptedBytes.{laid_out, sections-excesses}

-- the most bytes that sections have, each with its count
unfoldable pub most : List Section → ℕ
most [] = 0
most (s ∷ ss) = 1 + s.limit * s.width + most ss

-- "The longest query has 681 bytes", of which 120 were booleans (02, R-13)
most_bytes : (n : ℕ) → most (sections n) ≡ 561
unfolding most sections five_sections four_sections boolean_section
most_bytes n = refl

-- A refusal's place is not past the bytes nor past the most; bytes that are laid out are no more than the most.
abbrev Bounded : List Section → ℕ → List ℕ → Layout → Type 0
Bounded ss place bytes (faulty k p) = (p ≤ place + length bytes) × (p ≤ place + most ss)
Bounded ss place bytes (parts ps) = length bytes ≤ most ss

with_part_bounded : (s : Section) (ss : List Section) (place c : ℕ) (more : List ℕ) → c * s.width ≤ s.limit * s.width → c * s.width ≤ length more →
    (l : Layout) → Bounded ss (suc place + c * s.width) (drop (c * s.width) more) l → Bounded (s ∷ ss) place (c ∷ more) (with_part (take (c * s.width) more) l)
unfolding with_part most
with_part_bounded s ss place c more small fits (faulty k p) h = (omega (arith, h.0, length-drop (c * s.width) more), omega (arith, h.1))
with_part_bounded s ss place c more small fits (parts ps) h = omega (arith, h, length-drop (c * s.width) more)

layout_bounded : (ss : List Section) (place : ℕ) (bytes : List ℕ) → Bounded ss place bytes (layout ss place bytes)
unfolding layout most
layout_bounded [] place [] = omega arith
layout_bounded [] place (b ∷ bytes) = (omega arith, omega arith)
layout_bounded (s ∷ ss) place [] = (omega arith, omega arith)
layout_bounded (s ∷ ss) place (c ∷ more) =
    cond_elim (Bounded (s ∷ ss) place (c ∷ more)) (leb c s.limit)
    (λ t. let small = mul-le-mul (leb-true c s.limit t) (le_refl s.width) in
    cond_elim (Bounded (s ∷ ss) place (c ∷ more)) (leb (c * s.width) (length more))
    (λ t'. with_part_bounded s ss place c more small (leb-true (c * s.width) (length more) t') _ (layout_bounded ss (suc place + c * s.width) (drop (c * s.width) more)))
    (λ f. (omega arith, omega (arith, small, leb-false (c * s.width) (length more) f))))
    (λ f. (omega arith, omega arith))

-- a place in a query
abbrev InQuery : ℕ → List ℕ → ℕ → Type 0
InQuery longest bytes place = (place ≤ length bytes) × (place ≤ longest)

role_place : (k place : ℕ) (roles : List Role) (bytes : List ℕ) (p : ℕ) → role_fault k place roles bytes ≡ some p → p < place + length bytes
unfolding role_fault
role_place k place [] bytes p h = absurd (none-some h)
role_place k place (r ∷ roles) [] p h = absurd (none-some h)
role_place k place (r ∷ roles) (b ∷ bytes) p h =
    ⊎_elim
    (λ e. let q = keep_some (eqb r.refusal k and not (r.allows b)) e in omega (arith, q.1))
    (λ e. let ih = role_place k (suc place) roles bytes p e.1 in omega arith)
    (or_else_cases (keep (eqb r.refusal k and not (r.allows b)) place) (role_fault k (suc place) roles bytes) p h)

-- A form of query, and the bytes of its longest
module _ (form : Form) (longest : ℕ) (most_form : (n : ℕ) → most (form n) ≡ longest) (excesses : (n : ℕ) → Excesses (form n)) where
  pub layout-place_of : (k : ℕ) (bytes : List ℕ) (place : ℕ) → layout_fault form k bytes ≡ some place → InQuery longest bytes place
  unfolding layout_fault layout_by fault_in
  layout-place_of k bytes place h = go (layout_by form bytes) (layout_bounded (form (first_byte bytes)) 0 bytes) h
    where
      go : (l : Layout) → Bounded (form (first_byte bytes)) 0 bytes l → fault_in k l ≡ some place → InQuery longest bytes place
      go (faulty j p) b e = let q = keep_some (eqb j k) e in (omega (arith, b.0, q.1), omega (arith, b.1, q.1, most_form (first_byte bytes)))
      go (parts ps) b e = absurd (none-some e)

  -- a query that is laid out is no longer
  pub laid_short : (bytes : List ℕ) (ps : List (List ℕ)) → layout_by form bytes ≡ parts ps → length bytes ≤ longest
  unfolding layout_by
  laid_short bytes ps e =
      let b : length bytes ≤ most (form (first_byte bytes)) = subst (Bounded (form (first_byte bytes)) 0 bytes) e (layout_bounded (form (first_byte bytes)) 0 bytes) in
      omega (arith, b, most_form (first_byte bytes))

  -- refusals 5 to 8 are met only where those of the walk from the front are not
  pub byte_place_of : (k : ℕ) (bytes : List ℕ) (place : ℕ) → ((j : ℕ) → LayoutNumber j → layout_fault form j bytes ≡ none) → byte_fault form k bytes ≡ some place → InQuery longest bytes place
  unfolding byte_fault
  byte_place_of k bytes place passed h =
      let p = role_place k 0 _ bytes place h in
      let l = laid_out form bytes (excesses (first_byte bytes)) passed in
      (omega arith, omega (arith, laid_short bytes l.0 l.1))

-- the form of 01
pub layout-place : (k : ℕ) (bytes : List ℕ) (place : ℕ) → layout_fault sections k bytes ≡ some place → InQuery 561 bytes place
layout-place = layout-place_of sections 561 most_bytes sections-excesses

pub byte_place : (k : ℕ) (bytes : List ℕ) (place : ℕ) → ((j : ℕ) → LayoutNumber j → layout_fault sections j bytes ≡ none) → byte_fault sections k bytes ≡ some place → InQuery 561 bytes place
byte_place = byte_place_of sections 561 most_bytes sections-excesses
