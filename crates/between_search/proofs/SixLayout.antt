-- Five sections and the sixth: what the walk from the front and the search for single bytes meet in them, from what they meet in the five.
use Prim.Native.Nat.{ℕ, suc, ◌+◌, ◌*◌, ◌≤◌}
use native.Mathlib.Omega.{arith}
use mathlib.Core.Path.{◌≡◌, refl, sym, ap, ◌∙◌}
use mathlib.Core.Bool.{Bool, true, false, not, cond}
use mathlib.Core.List.{List, [], ◌∷◌, ◌++◌, append_assoc, append-nil}
use mathlib.Core.Option.{Option, none, some}
use lib.ListN.{length, take, drop, length-append, take-append-drop}
use lib.Seq.{length-take-le, take_at, drop_at}
use lib.Dec.{eqb, leb}
use borrow.Author.Tests.{leb-true, le-leb}
use Rattle.logic.specs.Search.{◌and◌, keep, or_else}
use Rattle.logic.specs.Query.{Role, Section, four_sections, boolean_section, five_sections, sections, Layout, faulty, parts, with_part, layout, role_fault}
use Rattle.between_search.proofs.Layouts.{prepend, layout-append}

-- what is met before the end of the five is met in the six
faulty_same : {k p k' p' : ℕ} → faulty k p ≡ faulty k' p' → (k ≡ k') × (p ≡ p')
faulty_same e = (cc, cc)

parts_faulty : {k p : ℕ} {ps : List (List ℕ)} → parts ps ≡ faulty k p → ⊥
parts_faulty e = let z : ◌≡◌ {A = ℕ} 0 1 = cc in omega arith

with_part_faulty : (p : List ℕ) (l : Layout) (k place : ℕ) → with_part p l ≡ faulty k place → l ≡ faulty k place
unfolding with_part
with_part_faulty p (faulty j at) k place h = h
with_part_faulty p (parts ps) k place h = absurd (parts_faulty h)

pub early_fault : (ss ts : List Section) (place : ℕ) (bytes : List ℕ) (k at : ℕ) → (k ≡ 4 → ⊥) → layout ss place bytes ≡ faulty k at → layout (ss ++ ts) place bytes ≡ faulty k at
unfolding layout with_part
early_fault [] ts place [] k at d h = absurd (parts_faulty h)
early_fault [] ts place (b ∷ bytes) k at d h = absurd (d (sym (faulty_same h).0))
early_fault (s ∷ ss) ts place [] k at d h = h
early_fault (s ∷ ss) ts place (c ∷ more) k at d h =
    first (leb c s.limit) (leb (c * s.width) (length more)) h (λ e. early_fault ss ts (suc place + c * s.width) (drop (c * s.width) more) k at d e)
  where
    first : (a b : Bool) → cond a (cond b (with_part (take (c * s.width) more) (layout ss (suc place + c * s.width) (drop (c * s.width) more)))
        (faulty 2 (suc place + length more))) (faulty s.excess place) ≡ faulty k at →
        (layout ss (suc place + c * s.width) (drop (c * s.width) more) ≡ faulty k at →
        layout (ss ++ ts) (suc place + c * s.width) (drop (c * s.width) more) ≡ faulty k at) →
        cond a (cond b (with_part (take (c * s.width) more) (layout (ss ++ ts) (suc place + c * s.width) (drop (c * s.width) more)))
        (faulty 2 (suc place + length more))) (faulty s.excess place) ≡ faulty k at
    first true true h ih = ap (with_part (take (c * s.width) more)) (ih (with_part_faulty _ _ k at h))
    first true false h ih = h
    first false b h ih = h

-- where no bytes are left for the sixth, the query ends before its count
pub ends_early : (ss ts : List Section) (s : Section) (place : ℕ) (bytes : List ℕ) (ps : List (List ℕ)) → layout ss place bytes ≡ parts ps →
    layout (ss ++ (s ∷ ts)) place bytes ≡ faulty 2 (place + length bytes)
unfolding layout prepend with_part
ends_early ss ts s place bytes ps h = ap (layout (ss ++ (s ∷ ts)) place) (sym (append-nil bytes)) ∙ layout-append ss (s ∷ ts) place bytes [] ps h ∙ through ps
  where
    through : (ps : List (List ℕ)) → prepend ps (faulty 2 (place + length bytes)) ≡ faulty 2 (place + length bytes)
    through [] = refl
    through (p ∷ ps) = ap (with_part p) (through ps)

-- where bytes follow the five, the bytes before them are five sections
pub record Followed (ss : List Section) (place : ℕ) (bytes : List ℕ) (at : ℕ) : Type 0 where
  pub front : List ℕ
  pub back : List ℕ
  pub whole : bytes ≡ front ++ back
  pub placed : at ≡ place + length front
  pub more_left : 1 ≤ length back
  pub laid_parts : List (List ℕ)
  pub laid : layout ss place front ≡ parts laid_parts

-- 4 is met at no count
abbrev pub NotFour : List Section → Type 0
NotFour [] = Unit {0}
NotFour (s ∷ ss) = (s.excess ≡ 4 → ⊥) × NotFour ss

pub five_not_four : (n : ℕ) → NotFour (sections n)
unfolding sections five_sections four_sections boolean_section
five_not_four n = (λ e. omega arith, (λ e. omega arith, (λ e. omega arith, (λ e. omega arith, (λ e. omega arith, tt)))))

pub followed : (ss : List Section) → NotFour ss → (place : ℕ) (bytes : List ℕ) (at : ℕ) → layout ss place bytes ≡ faulty 4 at → Followed ss place bytes at
unfolding layout with_part
followed [] d place [] at h = absurd (parts_faulty h)
followed [] d place (b ∷ bytes) at h =
    record { front = []; back = b ∷ bytes; whole = refl; placed = sym (faulty_same h).1 ∙ none; more_left = omega arith; laid_parts = []; laid = refl }
  where
    none : place ≡ place + 0
    none = omega arith
followed (s ∷ ss) d place [] at h = absurd (let e = (faulty_same h).0 in omega (arith, e))
followed (s ∷ ss) d place (c ∷ more) at h = first (leb c s.limit) refl (leb (c * s.width) (length more)) refl h (λ e. followed ss d.1 (suc place + c * s.width) (drop (c * s.width) more) at e)
  where
    size : ℕ
    size = c * s.width

    again : (front : List ℕ) (ps : List (List ℕ)) → length (take (c * s.width) more) ≡ c * s.width → leb c s.limit ≡ true →
        layout ss (suc place + c * s.width) front ≡ parts ps → layout (s ∷ ss) place (c ∷ (take (c * s.width) more ++ front)) ≡ parts (take (c * s.width) more ∷ ps)
    again front ps sized ea h =
        let longer : leb (c * s.width) (length (take (c * s.width) more ++ front)) ≡ true = le-leb (c * s.width) _ (omega (arith, length-append (take (c * s.width) more) front, sized)) in
        rw (ea, longer, take_at (take (c * s.width) more) front (c * s.width) sized, drop_at (take (c * s.width) more) front (c * s.width) sized, h)

    first : (a : Bool) → leb c s.limit ≡ a → (b : Bool) → leb (c * s.width) (length more) ≡ b →
        cond a (cond b (with_part (take (c * s.width) more) (layout ss (suc place + c * s.width) (drop (c * s.width) more)))
        (faulty 2 (suc place + length more))) (faulty s.excess place) ≡ faulty 4 at →
        (layout ss (suc place + c * s.width) (drop (c * s.width) more) ≡ faulty 4 at →
        Followed ss (suc place + c * s.width) (drop (c * s.width) more) at) → Followed (s ∷ ss) place (c ∷ more) at
    first false ea b eb h ih = absurd (d.0 (faulty_same h).0)
    first true ea false eb h ih = absurd (let e = (faulty_same h).0 in omega (arith, e))
    first true ea true eb h ih =
        let r = ih (with_part_faulty _ _ 4 at h) in
        let fits : c * s.width ≤ length more = leb-true (c * s.width) (length more) eb in
        let sized : length (take (c * s.width) more) ≡ c * s.width = length-take-le (c * s.width) more fits in
        record {
          front = c ∷ (take (c * s.width) more ++ r.front);
          back = r.back;
          whole = ap (λ (xs : List ℕ). c ∷ xs)
              (sym (take-append-drop (c * s.width) more) ∙ ap (λ (xs : List ℕ). take (c * s.width) more ++ xs) r.whole
              ∙ sym (append_assoc (take (c * s.width) more) r.front r.back));
          placed = omega (arith, r.placed, length-append (take (c * s.width) more) r.front, sized);
          more_left = r.more_left;
          laid_parts = take (c * s.width) more ∷ r.laid_parts;
          laid = again r.front r.laid_parts sized ea r.laid;
        }

-- single bytes: first in the five, then in the sixth
pub role_append : (k place : ℕ) (roles roles' : List Role) (bytes bytes' : List ℕ) → length roles ≡ length bytes →
    role_fault k place (roles ++ roles') (bytes ++ bytes') ≡ or_else (role_fault k place roles bytes) (role_fault k (place + length bytes) roles' bytes')
unfolding role_fault or_else
role_append k place [] roles' [] bytes' e = let p : place ≡ place + 0 = omega arith in ap (λ (x : ℕ). role_fault k x roles' bytes') p
role_append k place [] roles' (b ∷ bytes) bytes' e = absurd (omega arith)
role_append k place (r ∷ roles) roles' [] bytes' e = absurd (omega arith)
role_append k place (r ∷ roles) roles' (b ∷ bytes) bytes' e =
    let p : suc place + length bytes ≡ place + suc (length bytes) = omega arith in
    ap (or_else (keep (eqb r.refusal k and not (r.allows b)) place))
    (role_append k (suc place) roles roles' bytes bytes' (omega arith) ∙ ap (λ (x : ℕ). or_else (role_fault k (suc place) roles bytes) (role_fault k x roles' bytes')) p)
    ∙ sym (assoc (keep (eqb r.refusal k and not (r.allows b)) place) (role_fault k (suc place) roles bytes) (role_fault k (place + suc (length bytes)) roles' bytes'))
  where
    assoc : (a b c : Option ℕ) → or_else (or_else a b) c ≡ or_else a (or_else b c)
    assoc none b c = refl
    assoc (some x) b c = refl
