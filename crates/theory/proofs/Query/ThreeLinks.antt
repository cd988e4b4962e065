-- Queries with three links: what their checks give (02, R-11).
use Prim.Native.Nat.{ℕ, zero, suc, ◌+◌, ◌-◌, ◌*◌, ◌≤◌, ◌<◌}
use native.Mathlib.Omega.{arith}
use native.Mathlib.Nat.{add-zero, add-suc, suc-add}
use mathlib.Core.Path.{◌≡◌, refl, sym, ap, ◌∙◌, subst}
use mathlib.Core.Logic.{⊎_elim}
use mathlib.Core.Bool.{Bool, true, false, not, cond}
use mathlib.Core.List.Memᴰ
use mathlib.Core.List.{List, [], ◌∷◌, Memᴰ}
use mathlib.Core.Option.{none, some}
use lib.ListN.{length, get_or}
use lib.Dec.{eqb, ltb, leb}
use Rattle.logic.specs.Search.{◌or◌, from, at, keep, or_else, flat_map}
use Rattle.logic.specs.Query.{Literal, Entries, entry_of, names_nil, argument_of, link_of, term_count, Role, Section}
use Rattle.logic.specs.Query.{entry_role, sign_role, term_role, number_role, count_role, boolean_section, Layout, faulty}
use Rattle.logic.specs.Query.{parts, roles_of, first_byte, layout_by, layout_fault, byte_fault, literals, section}
use Rattle.logic.specs.ThreeLinks.{link_sections, is_link, may_precede, entry_link_fault, reach_link_fault, link_fault, firsts, seconds, linked_literals, linked_query, decode_links}
use Rattle.theory.proofs.Basics.Search.{bool_cases, true-false, and_left, and_right, none-some, or_else-none, or_else_cases, keep-none, keep_some}
use Rattle.theory.proofs.Basics.Compare.{ltb-true, leb-true, eq_cases}
use Rattle.theory.proofs.Query.Tied.{InTerms, Accepted}
use Rattle.theory.proofs.Query.Bytes.{Allows, Allowed, Regular, Part, part_at, first-sized, faultless_allowed, LayoutNumber}
use Rattle.theory.proofs.Query.Bytes.{Excesses, three_number, retired_number, literals-allowed, total, laid_length}
use Rattle.theory.proofs.Query.AcceptedBytes.{laid_out, entry_allows, term_allows, number_allows}
use Rattle.theory.proofs.Query.Places.{most, laid_short}

-- Pairs of bytes

firsts-length : (c : ℕ) (bytes : List ℕ) → length bytes ≡ c * 2 → length (firsts bytes) ≡ c
unfolding firsts
firsts-length zero [] e = refl
firsts-length zero (a ∷ bytes) e = absurd (omega arith)
firsts-length (suc c) [] e = absurd (omega arith)
firsts-length (suc c) (a ∷ []) e = absurd (omega arith)
firsts-length (suc c) (a ∷ b ∷ rest) e = ap suc (firsts-length c rest (omega arith))

seconds-length : (c : ℕ) (bytes : List ℕ) → length bytes ≡ c * 2 → length (seconds bytes) ≡ c
unfolding seconds
seconds-length zero [] e = refl
seconds-length zero (a ∷ bytes) e = absurd (omega arith)
seconds-length (suc c) [] e = absurd (omega arith)
seconds-length (suc c) (a ∷ []) e = absurd (omega arith)
seconds-length (suc c) (a ∷ b ∷ rest) e = ap suc (seconds-length c rest (omega arith))

-- the second byte of entry t of a section of two bytes an entry
second_allowed : (free : Role) (role : ℕ → Role) (c i : ℕ) (bytes : List ℕ) → length bytes ≡ c * 2 →
    Allowed (flat_map (λ j. free ∷ role j ∷ []) (from c i)) bytes → (t : ℕ) → t < c → Allows (role (i + t)) (get_or (seconds bytes) t 0)
unfolding flat_map from seconds
second_allowed free role zero i bytes e h t l = absurd (omega arith)
second_allowed free role (suc c) i [] e h t l = absurd (omega arith)
second_allowed free role (suc c) i (a ∷ []) e h t l = absurd (omega arith)
second_allowed free role (suc c) i (a ∷ b ∷ rest) e h zero l = rw add-zero h.1.0
second_allowed free role (suc c) i (a ∷ b ∷ rest) e h (suc t) l =
    rw (add-suc, ← suc-add) (second_allowed free role c (suc i) rest (omega arith) h.1.1 t (omega arith))

-- where 22 does not stand, each link may stand before its byte
entry_precedes : (place c : ℕ) (bytes : List ℕ) → length bytes ≡ c * 2 → entry_link_fault place bytes ≡ none → (t : ℕ) → t < c → may_precede (get_or (firsts bytes) t 1) (get_or (seconds bytes) t 0) ≡ true
unfolding entry_link_fault firsts seconds
entry_precedes place zero bytes e h t l = absurd (omega arith)
entry_precedes place (suc c) [] e h t l = absurd (omega arith)
entry_precedes place (suc c) (a ∷ []) e h t l = absurd (omega arith)
entry_precedes place (suc c) (a ∷ b ∷ rest) e h zero l =
    let p = or_else-none (keep (not (may_precede a b)) place) (entry_link_fault (place + 2) rest) h in
    ⊎_elim (λ t. t) (λ f. absurd (true-false (ap not f) (keep-none (not (may_precede a b)) place p.0))) (bool_cases (may_precede a b))
entry_precedes place (suc c) (a ∷ b ∷ rest) e h (suc t) l =
    let p = or_else-none (keep (not (may_precede a b)) place) (entry_link_fault (place + 2) rest) h in
    entry_precedes (place + 2) c rest (omega arith) p.1 t (omega arith)

link_range : (l : ℕ) → is_link l ≡ true → (1 ≤ l) × (l ≤ 3)
unfolding is_link
link_range l h = (ltb-true 0 l (and_left (ltb 0 l) (leb l 3) h), leb-true l 3 (and_right (ltb 0 l) (leb l 3) h))

-- before a byte that is a term's number, a link is one of the three
precedes_term : (l b : ℕ) → may_precede l b ≡ true → 1 ≤ b → eqb b 255 ≡ false → (1 ≤ l) × (l ≤ 3)
unfolding may_precede ◌or◌
precedes_term l b h one no-nil =
    let zero_not : eqb b 0 ≡ false = ⊎_elim (λ e. absurd (omega (arith, e, one))) (λ d. d.1) (eq_cases b 0) in
    link_range l (sym (rw (zero_not, no-nil) refl) ∙ h)

-- Literals of four bytes

linked-allowed : (sign free left right : Role) (c i : ℕ) (bytes : List ℕ) → length bytes ≡ c * 4 →
    Allowed (flat_map (λ j. sign ∷ free ∷ left ∷ right ∷ []) (from c i)) bytes → (l : Literal) → Memᴰ l (linked_literals bytes) → Allows left l.left
    × Allows right l.right
unfolding flat_map from linked_literals
linked-allowed sign free left right zero i [] e h l m = absurd (Memᴰ.not-nil m)
linked-allowed sign free left right zero i (s ∷ bytes) e h l m = absurd (omega arith)
linked-allowed sign free left right (suc c) i [] e h l m = absurd (Memᴰ.not-nil m)
linked-allowed sign free left right (suc c) i (s ∷ []) e h l m = absurd (Memᴰ.not-nil m)
linked-allowed sign free left right (suc c) i (s ∷ k ∷ []) e h l m = absurd (Memᴰ.not-nil m)
linked-allowed sign free left right (suc c) i (s ∷ k ∷ a ∷ []) e h l m = absurd (Memᴰ.not-nil m)
linked-allowed sign free left right (suc c) i (s ∷ k ∷ a ∷ b ∷ rest) e h l m =
    ⊎_elim (λ q. (rw q h.1.1.0, rw q h.1.1.1.0)) (linked-allowed sign free left right c (suc i) rest (omega arith) h.1.1.1.1 l)
    (Memᴰ.cases_cons m)

linked-link : (place : ℕ) (bytes : List ℕ) → reach_link_fault place bytes ≡ none → (l : Literal) → Memᴰ l (linked_literals bytes) → (1 ≤ l.link) × (l.link ≤ 3)
unfolding reach_link_fault linked_literals
linked-link place [] h l m = absurd (Memᴰ.not-nil m)
linked-link place (s ∷ []) h l m = absurd (Memᴰ.not-nil m)
linked-link place (s ∷ k ∷ []) h l m = absurd (Memᴰ.not-nil m)
linked-link place (s ∷ k ∷ a ∷ []) h l m = absurd (Memᴰ.not-nil m)
linked-link place (s ∷ k ∷ a ∷ b ∷ rest) h l m =
    let p = or_else-none (keep (not (is_link k)) (place + 1)) (reach_link_fault (place + 4) rest) h in
    let here : is_link k ≡ true = ⊎_elim (λ t. t) (λ f. absurd (true-false (ap not f) (keep-none (not (is_link k)) (place + 1) p.0))) (bool_cases (is_link k)) in
    ⊎_elim (λ e. subst (λ (x : ℕ). (1 ≤ x) × (x ≤ 3)) (sym (ap (λ (x : Literal). x.link) e)) (link_range k here)) (linked-link (place + 4) rest p.1 l) (Memᴰ.cases_cons m)

-- A query that passes the checks

link_excesses : (n : ℕ) → Excesses (link_sections n)
unfolding link_sections boolean_section
link_excesses n = (three_number, (three_number, (three_number, (three_number, (retired_number, tt)))))

link_regular : (n : ℕ) → Regular (link_sections n)
unfolding link_sections boolean_section
link_regular n = (λ i. refl, (λ i. refl, (λ i. refl, (λ i. refl, (λ i. refl, tt)))))

pub link_sections_excesses : (n : ℕ) → Excesses (link_sections n)
link_sections_excesses = link_excesses

pub link-most : (n : ℕ) → most (link_sections n) ≡ 637
unfolding most link_sections boolean_section
link-most n = refl

module _ (n : ℕ) (ps : List (List ℕ)) (count : length (section ps 0) ≡ n * 2)
    (part : (i : ℕ) (s : Section) → at (link_sections n) (suc i) ≡ some s → Part s (section ps i)) (linked : link_fault (parts ps) ≡ none) where
  terms-counted : length (seconds (section ps 0)) ≡ n
  terms-counted = seconds-length n (section ps 0) count

  in_terms : (b : ℕ) → Allows (term_role n) b → InTerms (linked_query (parts ps)) b
  unfolding linked_query term_count
  in_terms b h = rw terms-counted (term_allows n b h)

  both_free : (entry_link_fault 1 (section ps 0) ≡ none) × (reach_link_fault (length (section ps 0) + length (section ps 1) + 3) (section ps 2) ≡ none)
  unfolding link_fault
  both_free = or_else-none (entry_link_fault 1 (section ps 0)) (reach_link_fault (length (section ps 0) + length (section ps 1) + 3) (section ps 2)) linked

  pub links_accepted : Accepted (linked_query (parts ps))
  unfolding linked_query term_count link_of entry_of names_nil argument_of link_sections at
  links_accepted =
      record {
        term_count_lem = let p = part 0 _ refl in omega (arith, p.within, p.sized, count, terms-counted);
        some_link = omega arith;
        entry_below = λ t h. entry_of_lem t h.0 h.1;
        entry_linked = λ t h one. entry_link t h.0 h.1 one;
        equal_terms = λ l m. let a = literals_of (term_role n) (term_role n) 1 refl l m in (in_terms l.left a.0, in_terms l.right a.1);
        reach_terms = λ l m. let p = part 2 _ refl in
            let a = linked-allowed sign_role count_role (term_role n) (term_role n) p.count 1 (section ps 2) p.sized p.allowed l m in
            (in_terms l.left a.0, in_terms l.right a.1);
        reach_linked = λ l m. linked-link (length (section ps 0) + length (section ps 1) + 3) (section ps 2) both_free.1 l m;
        field_number = λ l m. number_allows l.left (literals_of number_role (term_role n) 3 refl l m).0;
        field_term = λ l m. in_terms l.right (literals_of number_role (term_role n) 3 refl l m).1;
      }
    where
      entries : Entries
      entries = record { terms = seconds (section ps 0); links = firsts (section ps 0) }

      entry_of_lem : (t : ℕ) → 1 ≤ t → t ≤ length (seconds (section ps 0)) → argument_of entries t < t
      entry_of_lem zero l u = absurd (omega arith)
      entry_of_lem (suc t) l u =
          let p = part 0 _ refl in
          omega (
            arith,
            entry_allows (1 + t) (get_or (seconds (section ps 0)) t 0) (omega arith)
                (second_allowed count_role entry_role p.count 1 (section ps 0) p.sized p.allowed t (omega (arith, u, p.sized, count, terms-counted))),
          )

      entry_link : (t : ℕ) → 1 ≤ t → t ≤ length (seconds (section ps 0)) → 1 ≤ argument_of entries t → (1 ≤ link_of entries t) × (link_of entries t ≤ 3)
      entry_link zero l u one = absurd (omega arith)
      entry_link (suc t) l u one =
          let b : ℕ = get_or (seconds (section ps 0)) t 0 in
          let e : suc t - 1 ≡ t = omega arith in
          let fits = entry_precedes 1 n (section ps 0) count both_free.0 t (omega (arith, u, terms-counted)) in
          rw e (named b (eqb b 255) refl one fits)
        where
          named : (b : ℕ) (c : Bool) → eqb b 255 ≡ c → 1 ≤ cond c 0 b → may_precede (get_or (firsts (section ps 0)) t 1) b ≡ true →
              (1 ≤ get_or (firsts (section ps 0)) t 1) × (get_or (firsts (section ps 0)) t 1 ≤ 3)
          named b true e o f = absurd (omega (arith, o))
          named b false e o f = precedes_term (get_or (firsts (section ps 0)) t 1) b f o e

      literals_of : (left right : Role) (i : ℕ) → at (link_sections n) (suc i) ≡ some
          (record { limit = 60; excess = 3; width = 3; roles = λ j. sign_role ∷ left ∷ right ∷ [] }) → (l : Literal) →
          Memᴰ l (literals (section ps i)) → Allows left l.left × Allows right l.right
      literals_of left right i e = let p = part i _ e in literals-allowed sign_role left right p.count 1 (section ps i) p.sized p.allowed

-- bytes at which no check stands
pub record LinksPass (bytes : List ℕ) : Type 0 where
  pub layouts : (k : ℕ) → LayoutNumber k → layout_fault link_sections k bytes ≡ none
  pub link_free : link_fault (layout_by link_sections bytes) ≡ none
  pub single : (k : ℕ) → 5 ≤ k → k ≤ 8 → byte_fault link_sections k bytes ≡ none

pub passed_accepted : (bytes : List ℕ) → LinksPass bytes → Accepted (decode_links bytes)
unfolding decode_links layout_by byte_fault link_sections
passed_accepted bytes passes =
    let n : ℕ = first_byte bytes in
    let l = laid_out link_sections bytes (link_excesses n) passes.layouts in
    let counted = first-sized _ _ 0 bytes l.0 l.1 in
    let part = part_at (link_sections n) 0 bytes l.0 (link_regular n) l.1 (faultless_allowed 0 (roles_of (link_sections n) bytes) bytes passes.single) in
    subst Accepted (ap linked_query (sym l.1)) (links_accepted n l.0 counted part (ap link_fault (sym l.1) ∙ passes.link_free))

-- The place of 22

entry_fault_place : (place : ℕ) (bytes : List ℕ) (p : ℕ) → entry_link_fault place bytes ≡ some p → p < place + length bytes
unfolding entry_link_fault
entry_fault_place place [] p h = absurd (none-some h)
entry_fault_place place (l ∷ []) p h = absurd (none-some h)
entry_fault_place place (l ∷ b ∷ rest) p h =
    ⊎_elim (λ e. omega (arith, (keep_some (not (may_precede l b)) e).1)) (λ e. let ih = entry_fault_place (place + 2) rest p e.1 in omega (arith, ih))
    (or_else_cases (keep (not (may_precede l b)) place) (entry_link_fault (place + 2) rest) p h)

reach_fault_place : (place : ℕ) (bytes : List ℕ) (p : ℕ) → reach_link_fault place bytes ≡ some p → p < place + length bytes
unfolding reach_link_fault
reach_fault_place place [] p h = absurd (none-some h)
reach_fault_place place (s ∷ []) p h = absurd (none-some h)
reach_fault_place place (s ∷ l ∷ []) p h = absurd (none-some h)
reach_fault_place place (s ∷ l ∷ a ∷ []) p h = absurd (none-some h)
reach_fault_place place (s ∷ l ∷ a ∷ b ∷ rest) p h =
    ⊎_elim (λ e. omega (arith, (keep_some (not (is_link l)) e).1)) (λ e. let ih = reach_fault_place (place + 4) rest p e.1 in omega (arith, ih))
    (or_else_cases (keep (not (is_link l)) (place + 1)) (reach_link_fault (place + 4) rest) p h)

-- it is within the sections, and so within the query
fault_within : (ps : List (List ℕ)) (p : ℕ) → link_fault (parts ps) ≡ some p → p ≤ total ps
unfolding link_fault section total entry_link_fault reach_link_fault or_else
fault_within [] p h = absurd (none-some h)
fault_within (a ∷ []) p h =
    ⊎_elim (λ e. omega (arith, entry_fault_place 1 a p e)) (λ e. absurd (none-some e.1)) (or_else_cases (entry_link_fault 1 a) none p h)
fault_within (a ∷ b ∷ []) p h =
    ⊎_elim (λ e. omega (arith, entry_fault_place 1 a p e)) (λ e. absurd (none-some e.1)) (or_else_cases (entry_link_fault 1 a) none p h)
fault_within (a ∷ b ∷ c ∷ ps) p h =
    ⊎_elim (λ e. omega (arith, entry_fault_place 1 a p e)) (λ e. omega (arith, reach_fault_place (length a + length b + 3) c p e.1))
    (or_else_cases (entry_link_fault 1 a) (reach_link_fault (length a + length b + 3) c) p h)

no_fault : (k place p : ℕ) → link_fault (faulty k place) ≡ some p → ⊥
unfolding link_fault
no_fault k place p h = none-some h

laid_total : (bytes : List ℕ) (ps : List (List ℕ)) → layout_by link_sections bytes ≡ parts ps → length bytes ≡ total ps
unfolding layout_by
laid_total bytes ps e = laid_length (link_sections (first_byte bytes)) 0 bytes ps e

pub link-place : (bytes : List ℕ) (p : ℕ) → link_fault (layout_by link_sections bytes) ≡ some p → (p ≤ length bytes) × (p ≤ 637)
link-place bytes p h = go (layout_by link_sections bytes) refl h
  where
    go : (l : Layout) → layout_by link_sections bytes ≡ l → link_fault l ≡ some p → (p ≤ length bytes) × (p ≤ 637)
    go (faulty k place) e f = absurd (no_fault k place p f)
    go (parts ps) e f =
        let w = fault_within ps p f in
        let l = laid_total bytes ps e in
        let s = laid_short link_sections 637 link-most link_excesses bytes ps e in
        (omega (arith, w, l), omega (arith, w, l, s))
