-- Where the literals of a query stand in its bytes. Assumes nothing.
use Prim.Native.Nat.{ℕ, zero, suc, ◌+◌, ◌-◌, ◌*◌, ◌≤◌, ◌<◌}
use native.Mathlib.Omega.{arith}
use native.Mathlib.Nat.{min-le_right}
use mathlib.Core.Path.{◌≡◌, refl, sym, ap, ◌∙◌, subst}
use mathlib.Core.Logic.{⊎_elim}
use mathlib.Core.Bool.{true, false}
use mathlib.Core.List.{List, [], ◌∷◌, ◌++◌}
use mathlib.Core.Option.{none, some}
use lib.ListN.{length, take, drop, length-take, length-drop, take-append-drop}
use lib.Seq.{length-take-le, drop-append-add}
use lib.Dec.{eqb, leb}
use borrow.Author.Tests.{leb-true}
use Rattle.logic.specs.Search.{at}
use Rattle.logic.specs.Query.{Literal, Query, literal, term_count, Section, four_sections, five_sections, sections, Layout}
use Rattle.logic.specs.Query.{faulty, parts, with_part, layout, layout_by, layout_of, literals, section, query_of, decode}
use Rattle.logic.specs.Calls.{accepts}
use Rattle.theory.proofs.Basics.Compare.{eq_cases}
use Rattle.theory.proofs.Query.Bytes.{cond_elim, faulty_parts, with_part-parts, literals-count}
use Rattle.encoding.proofs.Decoded.{accepted_parts}
use Rattle.joining.specs.HandBack.{literals_in, start_in, place_in}

-- the first of the sections of bytes that are laid out, behind its count
record Front (s : Section) (ss : List Section) (bytes : List ℕ) (ps : List (List ℕ)) : Type 0 where
  count : ℕ
  part : List ℕ
  rest : List ℕ
  others : List (List ℕ)
  place : ℕ
  bytes_are : bytes ≡ count ∷ (part ++ rest)
  parts_are : ps ≡ part ∷ others
  sized : length part ≡ count * s.width
  behind : layout ss place rest ≡ parts others

front : (s : Section) (ss : List Section) (place : ℕ) (bytes : List ℕ) (ps : List (List ℕ)) → layout (s ∷ ss) place bytes ≡ parts ps → Front s ss bytes ps
unfolding layout
front s ss place [] ps h = absurd (faulty_parts h)
front s ss place (c ∷ more) ps h =
    cond_elim Leads (leb c s.limit) (λ within. cond_elim Leads (leb size (length more)) split (λ f. missed)) (λ f. missed) h
  where
    size : ℕ
    size = c * s.width

    Leads : Layout → Type 0
    Leads l = l ≡ parts ps → Front s ss (c ∷ more) ps

    missed : {k at : ℕ} → Leads (faulty k at)
    missed e = absurd (faulty_parts e)

    split : leb size (length more) ≡ true → Leads (with_part (take size more) (layout ss (suc place + size) (drop size more)))
    split fits e =
        let others = with_part-parts (take size more) (layout ss (suc place + size) (drop size more)) ps e in
        record {
          count = c;
          part = take size more;
          rest = drop size more;
          others = others.0;
          place = suc place + size;
          bytes_are = ap (λ (xs : List ℕ). c ∷ xs) (sym (take-append-drop size more));
          parts_are = others.2;
          sized = length-take-le size more (leb-true size (length more) fits);
          behind = others.1;
        }

-- The parts of an accepted query's bytes, each behind its count, and what follows them: section 5.
record Laid (bytes : List ℕ) (q : Query) : Type 0 where
  count₁ : ℕ
  count₂ : ℕ
  count₃ : ℕ
  count₄ : ℕ
  entries : List ℕ
  equal : List ℕ
  reach : List ℕ
  field : List ℕ
  rest : List ℕ
  bytes_are : bytes ≡ count₁ ∷ (entries ++ (count₂ ∷ (equal ++ (count₃ ∷ (reach ++ (count₄ ∷ (field ++ rest)))))))
  entries_are : q.entries.terms ≡ entries
  equal_are : q.equalities ≡ literals equal
  reach_are : q.reachability ≡ literals reach
  field_are : q.fields ≡ literals field
  equal_sized : length equal ≡ count₂ * 3
  reach_sized : length reach ≡ count₃ * 3

laid : (bytes : List ℕ) (ps : List (List ℕ)) → layout_of bytes ≡ parts ps → Laid bytes (decode bytes)
unfolding layout_of layout_by sections five_sections four_sections decode query_of section
laid bytes ps h =
    let f₁ = front _ _ 0 bytes ps h in
    let f₂ = front _ _ f₁.place f₁.rest f₁.others f₁.behind in
    let f₃ = front _ _ f₂.place f₂.rest f₂.others f₂.behind in
    let f₄ = front _ _ f₃.place f₃.rest f₃.others f₃.behind in
    let whole : ps ≡ f₁.part ∷ f₂.part ∷ f₃.part ∷ f₄.part ∷ f₄.others =
    f₁.parts_are ∙ ap (λ (x : List (List ℕ)). f₁.part ∷ x) (f₂.parts_are ∙ ap (λ (x : List (List ℕ)). f₂.part ∷ x) (f₃.parts_are ∙ ap (λ (x : List (List ℕ)). f₃.part ∷ x) f₄.parts_are)) in
    let said : decode bytes ≡ query_of (parts (f₁.part ∷ f₂.part ∷ f₃.part ∷ f₄.part ∷ f₄.others)) = ap query_of h ∙ ap (λ (x : List (List ℕ)). query_of (parts x)) whole in
    record {
      count₁ = f₁.count;
      count₂ = f₂.count;
      count₃ = f₃.count;
      count₄ = f₄.count;
      entries = f₁.part;
      equal = f₂.part;
      reach = f₃.part;
      field = f₄.part;
      rest = f₄.rest;
      bytes_are =
          f₁.bytes_are
          ∙ ap (λ (x : List ℕ). f₁.count ∷ (f₁.part ++ x))
          (f₂.bytes_are
          ∙ ap (λ (x : List ℕ). f₂.count ∷ (f₂.part ++ x))
          (f₃.bytes_are
          ∙ ap (λ (x : List ℕ). f₃.count ∷ (f₃.part ++ x))
          f₄.bytes_are));
      entries_are = ap (λ (q : Query). q.entries.terms) said;
      equal_are = ap (λ (q : Query). q.equalities) said;
      reach_are = ap (λ (q : Query). q.reachability) said;
      field_are = ap (λ (q : Query). q.fields) said;
      equal_sized = f₂.sized;
      reach_sized = f₃.sized;
    }

-- past a count and its part
skip : (c : ℕ) (part rest : List ℕ) (j k : ℕ) → j ≡ 1 + length part + k → drop j (c ∷ (part ++ rest)) ≡ drop k rest
skip c part rest j k e = ap (λ (i : ℕ). drop i (c ∷ (part ++ rest))) (e ∙ one_more) ∙ drop-append-add part rest k
  where
    one_more : 1 + length part + k ≡ suc (length part + k)
    one_more = omega arith

-- one literal of a part, read from the bytes where it stands
literal_there : (k : ℕ) (part rest : List ℕ) → k < length (literals part) → (l : Literal) × (at (literals part) (suc k) ≡ some l) × (literals (take 3 (drop (3 * k) (part ++ rest))) ≡ l ∷ [])
unfolding literals at
literal_there k [] rest h = absurd (omega arith)
literal_there k (s ∷ []) rest h = absurd (omega arith)
literal_there k (s ∷ a ∷ []) rest h = absurd (omega arith)
literal_there zero (s ∷ a ∷ b ∷ part) rest h = (literal (eqb s 1) a b, refl, refl)
literal_there (suc k) (s ∷ a ∷ b ∷ part) rest h =
    let (l, e, r) = literal_there k part rest (omega arith) in
    (l, e, ap (λ (i : ℕ). literals (take 3 (drop i (s ∷ a ∷ b ∷ (part ++ rest))))) (three) ∙ r)
  where
    three : 3 * suc k ≡ suc (suc (suc (3 * k)))
    three = omega arith

-- Literal k + 1 of section s, in the bytes of an accepted query.
abbrev Stands : List ℕ → Query → ℕ → ℕ → Type 0
Stands bytes q s k =
    (l : Literal) × (at (literals_in q s) (suc k) ≡ some l) × (literals (take 3 (drop (start_in q s + 3 * k) bytes)) ≡ l ∷ [])

module _ (bytes : List ℕ) (q : Query) (d : Laid bytes q) where
  equal-count : length q.equalities ≡ d.count₂
  equal-count = ap length d.equal_are ∙ literals-count d.count₂ d.equal d.equal_sized

  reach-count : length q.reachability ≡ d.count₃
  reach-count = ap length d.reach_are ∙ literals-count d.count₃ d.reach d.reach_sized

  entry_count : term_count q ≡ length d.entries
  unfolding term_count
  entry_count = ap length d.entries_are

  tail₄ : List ℕ
  tail₄ = d.count₄ ∷ (d.field ++ d.rest)

  tail₃ : List ℕ
  tail₃ = d.count₃ ∷ (d.reach ++ tail₄)

  tail₂ : List ℕ
  tail₂ = d.count₂ ∷ (d.equal ++ tail₃)

  whole : bytes ≡ d.count₁ ∷ (d.entries ++ tail₂)
  unfolding tail₄ tail₃ tail₂
  whole = d.bytes_are

  -- the bytes from a section on
  at_second : (j k : ℕ) → j ≡ length d.entries + 1 + k → drop j bytes ≡ drop k tail₂
  at_second j k e = ap (drop j) whole ∙ skip d.count₁ d.entries tail₂ j k (omega arith)

  at_third : (j k : ℕ) → j ≡ length d.entries + 3 * d.count₂ + 2 + k → drop j bytes ≡ drop k tail₃
  unfolding tail₂
  at_third j k e = at_second j (1 + length d.equal + k) (omega (arith, d.equal_sized)) ∙ skip d.count₂ d.equal tail₃ (1 + length d.equal + k) k refl

  at_fourth : (j k : ℕ) → j ≡ length d.entries + 3 * d.count₂ + 3 * d.count₃ + 3 + k → drop j bytes ≡ drop k tail₄
  unfolding tail₃
  at_fourth j k e = at_third j (1 + length d.reach + k) (omega (arith, d.reach_sized)) ∙ skip d.count₃ d.reach tail₄ (1 + length d.reach + k) k refl

  one_more : (k : ℕ) (c : ℕ) (xs : List ℕ) → drop (1 + k) (c ∷ xs) ≡ drop k xs
  one_more k c xs = ap (λ (i : ℕ). drop i (c ∷ xs)) (plus)
    where
      plus : 1 + k ≡ suc k
      plus = omega arith

  second_stands : (k : ℕ) → k < length q.equalities → Stands bytes q 2 k
  unfolding literals_in start_in tail₂
  second_stands k h =
      let (l, e, r) = literal_there k d.equal tail₃ (omega (arith, ap length d.equal_are)) in (
        l,
        ap (λ (ls : List Literal). at ls (suc k)) d.equal_are ∙ e,
        ap (λ (xs : List ℕ). literals (take 3 xs))
            (at_second (term_count q + 2 + 3 * k) (1 + 3 * k) (omega (arith, entry_count)) ∙ one_more (3 * k) d.count₂ (d.equal ++ tail₃)) ∙ r,
      )

  third_stands : (k : ℕ) → k < length q.reachability → Stands bytes q 3 k
  unfolding literals_in start_in tail₃
  third_stands k h =
      let (l, e, r) = literal_there k d.reach tail₄ (omega (arith, ap length d.reach_are)) in (
        l,
        ap (λ (ls : List Literal). at ls (suc k)) d.reach_are ∙ e,
        ap (λ (xs : List ℕ). literals (take 3 xs))
            (at_third (term_count q + 3 * length q.equalities + 3 + 3 * k) (1 + 3 * k) (omega (arith, entry_count, equal-count))
            ∙ one_more (3 * k) d.count₃ (d.reach ++ tail₄)) ∙ r,
      )

  fourth_stands : (k : ℕ) → k < length q.fields → Stands bytes q 4 k
  unfolding literals_in start_in tail₄
  fourth_stands k h =
      let (l, e, r) = literal_there k d.field d.rest (omega (arith, ap length d.field_are)) in (
        l,
        ap (λ (ls : List Literal). at ls (suc k)) d.field_are ∙ e,
        ap (λ (xs : List ℕ). literals (take 3 xs))
            (at_fourth (term_count q + 3 * length q.equalities + 3 * length q.reachability + 4 + 3 * k) (1 + 3 * k)
            (omega (arith, entry_count, equal-count, reach-count)) ∙ one_more (3 * k) d.count₄ (d.field ++ d.rest)) ∙ r,
      )

  stands : (s k : ℕ) → k < length (literals_in q s) → Stands bytes q s k
  unfolding literals_in
  stands s k h =
      ⊎_elim (λ e. subst (λ (t : ℕ). k < length (literals_in q t) → Stands bytes q t k) (sym e) (second_stands k) h)
      (λ n₂.
      ⊎_elim (λ e. subst (λ (t : ℕ). k < length (literals_in q t) → Stands bytes q t k) (sym e) (third_stands k) h)
      (λ n₃.
      ⊎_elim (λ e. subst (λ (t : ℕ). k < length (literals_in q t) → Stands bytes q t k) (sym e) (fourth_stands k) h)
      (λ n₄. absurd (none n₂.1 n₃.1 n₄.1))
      (eq_cases s 4))
      (eq_cases s 3))
      (eq_cases s 2)
    where
      none : eqb s 2 ≡ false → eqb s 3 ≡ false → eqb s 4 ≡ false → ⊥
      none a b c =
          let e : literals_in q s ≡ [] = rw (a, b, c) in
          omega (arith, h, ap length e)

-- "that literal's own bytes": literal k of section s of an accepted query, counted from 1, is what the bytes at its place say
pub literal-stands : (bytes : List ℕ) → accepts bytes ≡ true → (s k : ℕ) → 1 ≤ k → k ≤ length (literals_in (decode bytes) s) → (l : Literal)
    × (at (literals_in (decode bytes) s) k ≡ some l) × (literals (take 3 (drop (place_in (decode bytes) s k) bytes)) ≡ l ∷ [])
unfolding place_in
literal-stands bytes h s zero one u = absurd (omega arith)
literal-stands bytes h s (suc k) one u =
    let p = accepted_parts bytes h in
    let (l, own, reads) = stands bytes (decode bytes) (laid bytes p.found p.laid) s k (omega arith) in
    (l, own, ap (λ (i : ℕ). literals (take 3 (drop (start_in (decode bytes) s + 3 * i) bytes))) (less) ∙ reads)
  where
    less : suc k - 1 ≡ k
    less = omega arith

-- a part that reads as a literal is as long as one, so that it lies in the bytes
literals-three : (xs : List ℕ) (l : Literal) → literals xs ≡ l ∷ [] → 3 ≤ length xs
unfolding literals
literals-three [] l e = absurd (omega (arith, ap length e))
literals-three (s ∷ []) l e = absurd (omega (arith, ap length e))
literals-three (s ∷ a ∷ []) l e = absurd (omega (arith, ap length e))
literals-three (s ∷ a ∷ b ∷ xs) l e = omega arith

pub literal-fits : (bytes : List ℕ) → accepts bytes ≡ true → (s k : ℕ) → 1 ≤ k → k ≤ length (literals_in (decode bytes) s) → place_in (decode bytes) s k + 3 ≤ length bytes
literal-fits bytes h s k one u =
    let (l, own, reads) = literal-stands bytes h s k one u in
    let wide = literals-three (take 3 (drop (place_in (decode bytes) s k) bytes)) l reads in
    omega (arith, length-take 3 (drop (place_in (decode bytes) s k) bytes), min-le_right 3 (length (drop (place_in (decode bytes) s k) bytes)), length-drop (place_in (decode bytes) s k) bytes)
