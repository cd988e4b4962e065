-- Bytes that are accepted are those that are written for what they say: no two accepted queries say the same. Assumes nothing.
use Prim.Native.Nat.{ℕ, zero, suc, ◌+◌, ◌*◌, ◌≤◌, ◌<◌}
use native.Mathlib.Omega.{arith}
use mathlib.Core.Path.{◌≡◌, refl, sym, ap, ap₂, ◌∙◌, subst}
use mathlib.Core.Bool.{Bool, true, false}
use mathlib.Core.List.{List, [], ◌∷◌, ◌++◌}
use mathlib.Core.Option.{some}
use lib.ListN.{length, take, drop, take-append-drop}
use lib.Seq.{length-take-le}
use lib.Dec.{eqb, leb}
use borrow.Author.Tests.{ltb-true, leb-true, eqb-true, eqb-false}
use Rattle.logic.specs.Search.{from, at, flat_map}
use Rattle.logic.specs.Query.{term_count, Role, Section, sign_role, term_role, number_role, four_sections, boolean_section, five_sections, sections}
use Rattle.logic.specs.Query.{Layout, faulty, parts, with_part, layout, first_byte, layout_by, layout_of, literals, section, query_of, decode}
use Rattle.logic.specs.Calls.{accepts}
use Rattle.theory.proofs.Query.Bytes.{Allows, Allowed, Part, cond_elim, faulty_parts}
use Rattle.encoding.specs.QueryBytes.{sign_byte, literal_bytes, section_bytes, encode}
use Rattle.encoding.proofs.Decoded.{accepted_parts}

-- a sign that is allowed reads back
pub sign_allowed : (s : ℕ) → Allows sign_role s → sign_byte (eqb s 1) ≡ s
unfolding sign_role sign_byte
sign_allowed s h = go (eqb s 1) refl (ltb-true s 2 (h (omega arith, omega arith)))
  where
    go : (b : Bool) → eqb s 1 ≡ b → s < 2 → sign_byte b ≡ s
    go true e l = sym (eqb-true s 1 e)
    go false e l = zero_of (eqb-false s 1 e)
      where
        zero_of : (s ≡ 1 → ⊥) → 0 ≡ s
        zero_of n = omega arith

-- the bytes of a section's literals
literals-written : (left right : Role) (c i : ℕ) (bytes : List ℕ) → length bytes ≡ c * 3 →
    Allowed (flat_map (λ j. sign_role ∷ left ∷ right ∷ []) (from c i)) bytes → (flat_map literal_bytes (literals bytes) ≡ bytes) × (length (literals bytes) ≡ c)
unfolding flat_map from literals literal_bytes
literals-written left right zero i [] e h = (refl, refl)
literals-written left right zero i (s ∷ bytes) e h = absurd (omega arith)
literals-written left right (suc c) i [] e h = absurd (omega arith)
literals-written left right (suc c) i (s ∷ []) e h = absurd (omega arith)
literals-written left right (suc c) i (s ∷ a ∷ []) e h = absurd (omega arith)
literals-written left right (suc c) i (s ∷ a ∷ b ∷ rest) e h =
    let r = literals-written left right c (suc i) rest (omega arith) h.1.1.1 in
    (ap₂ (λ (x : ℕ) (ys : List ℕ). x ∷ a ∷ b ∷ ys) (sign_allowed s h.0) r.0, ap suc r.1)

-- Bytes that are laid out: each section's count, then its part

pub data Laid : List Section → List ℕ → List (List ℕ) → Type 0 where
  none_left : Laid [] [] []
  one_more : {s : Section} {ss : List Section} {rest : List ℕ} {ps : List (List ℕ)} (c : ℕ) (p : List ℕ) → length p ≡ c * s.width → Laid ss rest ps → Laid (s ∷ ss) (c ∷ (p ++ rest)) (p ∷ ps)

pub laid : (ss : List Section) (place : ℕ) (bytes : List ℕ) (ps : List (List ℕ)) → layout ss place bytes ≡ parts ps → Laid ss bytes ps
unfolding layout with_part
laid [] place [] ps e = let q : ps ≡ [] = cc in subst (Laid [] []) (sym q) none_left
laid [] place (b ∷ bytes) ps e = absurd (faulty_parts e)
laid (s ∷ ss) place [] ps e = absurd (faulty_parts e)
laid (s ∷ ss) place (c ∷ more) ps e =
    cond_elim Leads (leb c s.limit)
    (λ within. cond_elim Leads (leb size (length more))
    (λ fits. split (leb-true size (length more) fits) (λ qs. laid ss (suc place + size) (drop size more) qs)
    (layout ss (suc place + size) (drop size more)) refl) (λ f e. absurd (faulty_parts e)))
    (λ f e. absurd (faulty_parts e)) e
  where
    size : ℕ
    size = c * s.width

    Leads : Layout → Type 0
    Leads l = l ≡ parts ps → Laid (s ∷ ss) (c ∷ more) ps

    split : size ≤ length more → ((qs : List (List ℕ)) → layout ss (suc place + size) (drop size more) ≡ parts qs → Laid ss (drop size more) qs) →
        (l : Layout) → layout ss (suc place + size) (drop size more) ≡ l → Leads (with_part (take size more) l)
    split fits behind (faulty k place') r e = absurd (faulty_parts e)
    split fits behind (parts qs) r e =
        let q : ps ≡ take size more ∷ qs = cc in
        subst (Laid (s ∷ ss) (c ∷ more)) (sym q)
        (subst (λ (xs : List ℕ). Laid (s ∷ ss) (c ∷ xs) (take size more ∷ qs)) (take-append-drop size more) (one_more c (take size more) (length-take-le size more fits) (behind qs r)))

-- one section behind the other
pub piece : {c c' : ℕ} {p p' rest rest' : List ℕ} → c ≡ c' → p ≡ p' → rest ≡ rest' → c ∷ (p ++ rest) ≡ c' ∷ (p' ++ rest')
piece e f g = ap₂ (λ (x : ℕ) (xs : List ℕ). x ∷ xs) e (ap₂ (λ (x : List ℕ) (y : List ℕ). x ++ y) f g)

-- the count of a section's literals, and their bytes
pub literals_of : (left right : Role) (c : ℕ) (p : List ℕ) → length p ≡ c * 3 →
    Part (record { limit = 60; excess = 3; width = 3; roles = λ j. sign_role ∷ left ∷ right ∷ [] }) p → (length (literals p) ≡ c) × (flat_map literal_bytes (literals p) ≡ p)
literals_of left right c p e part = let r = literals-written left right part.count 1 p part.sized part.allowed in (omega (arith, r.1, part.sized, e), r.0)

-- no bytes
pub none_of : (p : List ℕ) → length p ≡ 0 → [] ≡ p
none_of [] e = refl
none_of (b ∷ p) e = absurd (omega arith)

module _ (n : ℕ) where
  written : (bytes : List ℕ) (ps : List (List ℕ)) → Laid (sections n) bytes ps →
      ((i : ℕ) (s : Section) → at (sections n) (suc i) ≡ some s → Part s (section ps i)) → encode (query_of (parts ps)) ≡ bytes
  unfolding sections five_sections four_sections boolean_section query_of section encode section_bytes term_count at
  written bytes ps (one_more c₁ p₁ e₁ (one_more c₂ p₂ e₂ (one_more c₃ p₃ e₃ (one_more c₄ p₄ e₄ (one_more c₅ p₅ e₅ none_left))))) part =
      let l₂ = literals_of (term_role n) (term_role n) c₂ p₂ e₂ (part 1 _ refl) in
      let l₃ = literals_of (term_role n) (term_role n) c₃ p₃ e₃ (part 2 _ refl) in
      let l₄ = literals_of number_role (term_role n) c₄ p₄ e₄ (part 3 _ refl) in
      let p = part 4 _ refl in
      piece {p = p₁} {p' = p₁} (omega (arith, e₁)) refl
      (piece l₂.0 l₂.1 (piece l₃.0 l₃.1
      (piece l₄.0 l₄.1 (piece {p = []} {rest = []} (omega (arith, p.within, p.sized, e₅)) (none_of p₅ (omega (arith, p.within, p.sized))) refl))))

pub recovered : (bytes : List ℕ) → accepts bytes ≡ true → encode (decode bytes) ≡ bytes
unfolding decode layout_of layout_by
recovered bytes h =
    let p = accepted_parts bytes h in
    ap (λ (l : Layout). encode (query_of l)) p.laid ∙ written (first_byte bytes) bytes p.found (laid (sections (first_byte bytes)) 0 bytes p.found p.laid) p.part
