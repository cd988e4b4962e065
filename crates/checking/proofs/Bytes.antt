-- The numbers of a derivation's lines are bytes: terms, steps of a cycle, or places of literals.
use Prim.Native.Nat.{ℕ, zero, suc, ◌*◌, ◌≤◌, ◌<◌}
use native.Mathlib.Omega.{arith}
use mathlib.Core.Path.{◌≡◌, refl, sym, ap, subst}
use mathlib.Core.Logic.{⊎_elim}
use mathlib.Core.Bool.{Bool, true, not, false≢true}
use mathlib.Core.List.Memᴰ
use mathlib.Core.List.{List, [], ◌∷◌, ◌++◌, Memᴰ}
use lib.ListN.{length}
use lib.Dec.{eqb}
use Rattle.logic.specs.Search.{◌and◌, ◌or◌, at, holds_of}
use Rattle.logic.specs.Query.{Literal, Query, Form, Layout, faulty, parts, term_count, four_sections, boolean_section, five_sections, sections, first_byte, layout_by, layout_of, literals, section, query_of, decode}
use Rattle.logic.specs.Facts.{Facts, Line, line, join_lines, start_joins, negated_at, plain_at, is_clash}
use Rattle.logic.specs.Rules.{triple, Move, move, Fact, alternatives, applies, add, branches, branch, move_number, move_line}
use Rattle.logic.specs.Derivation.{Derivation, Refutes, ends, follows, none_left, one_more}
use Rattle.logic.specs.ThreeLinks.{link_sections, linked_literals, linked_query, decode_links, three_link_form}
use Rattle.logic.specs.Calls.{CallForm, one_link_form, accepts_by}
use Rattle.theory.proofs.Basics.Search.{and_left, and_right, or_cases, map-mem, map_intro}
use Rattle.theory.proofs.Basics.Compare.{eqb-true}
use Rattle.theory.proofs.Query.Tied.{Accepted}
use Rattle.theory.proofs.Query.Bytes.{Excesses, total, laid_length}
use Rattle.theory.proofs.Query.AcceptedBytes.{sections-excesses}
use Rattle.theory.proofs.Query.Places.{most, laid_short}
use Rattle.theory.proofs.Query.ThreeLinks.{link_sections_excesses, link-most}
use Rattle.theory.proofs.Calls.CallLaws.{FormLaws}
use Rattle.theory.proofs.Soundness.ClashSound.{at_mem}
use Rattle.theory.proofs.Paths.Kept.{LiveFact}
use Rattle.theory.proofs.Paths.Applies.{has_link_range, applies_linked, applies_met}
use Rattle.theory.proofs.Paths.Invariant.{Invariant, start_invariant, branch_invariant, alternatives-live}
use Rattle.checking.specs.Claims.{Bytes, AllBytes}
use Rattle.checking.proofs.Numbers.{move-numbers}
use Rattle.checking.proofs.Pairs.{InPairs, start_in, branch_in}
use Rattle.checking.proofs.Moves.{rule_below}

bytes-append : {ls ms : List Line} → AllBytes ls → AllBytes ms → AllBytes (ls ++ ms)
bytes-append {ls} b c l m = ⊎_elim (b l) (c l) (Memᴰ.append_cases ls m)

bytes-cons : {l : Line} {ls : List Line} → Bytes l → AllBytes ls → AllBytes (l ∷ ls)
bytes-cons b c k m = ⊎_elim (λ e. subst Bytes (sym e) b) (c k) (Memᴰ.cases_cons m)

bytes-nil : AllBytes []
bytes-nil l m = absurd (Memᴰ.not-nil m)

-- join lines
join_bytes : (n : ℕ) (ps : List (ℕ × ℕ)) → n ≤ 16 → InPairs n ps → AllBytes (join_lines ps)
unfolding join_lines
join_bytes n ps few p l m =
    let (ab, k, e) = map-mem (λ (ab : ℕ × ℕ). line 10 ab.0 ab.1 0) l ps m in
    let r = p ab k in
    subst Bytes (sym e) (omega arith, omega arith, omega arith, omega arith)

-- clash lines: a place in a section of at most 255 literals
place_few : {A : Type 0} (xs : List A) (i : ℕ) (p : A → Bool) → holds_of (at xs i) p ≡ true → i ≤ length xs
unfolding at holds_of
place_few xs zero p h = omega arith
place_few [] (suc i) p h = absurd (false≢true h)
place_few (x ∷ xs) (suc zero) p h = omega arith
place_few (x ∷ xs) (suc (suc i)) p h = let r = place_few xs (suc i) p h in omega arith

pub record Sections (q : Query) : Type 0 where
  pub equal_few : length q.equalities ≤ 255
  pub reach_few : length q.reachability ≤ 255
  pub field_few : length q.fields ≤ 255

module _ (a i j : ℕ) where
  abbrev Few : Type 0
  Few = (a < 256) × (i < 256) × (j < 256)

  alone_few : (section : ℕ) (ls : List Literal) (f : Literal → Bool) → section ≤ 4 → length ls ≤ 255 → eqb a section and eqb j 0 and negated_at ls i f ≡ true → Few
  unfolding negated_at
  alone_few section ls f c few h =
      let l = and_left (eqb a section and eqb j 0) (negated_at ls i f) h in
      let e = eqb-true a section (and_left (eqb a section) (eqb j 0) l) in
      let z = eqb-true j 0 (and_right (eqb a section) (eqb j 0) l) in
      let p = place_few ls i (λ m. not m.plain and f m) (and_right (eqb a section and eqb j 0) (negated_at ls i f) h) in
      (omega arith, omega arith, omega arith)

  paired_few : (ls : List Literal) (f : Literal → Literal → Bool) → length ls ≤ 255 → eqb a 4 and negated_at ls i (λ l. plain_at ls j (f l)) ≡ true → Few
  unfolding negated_at plain_at
  paired_few ls f few h =
      let e = eqb-true a 4 (and_left (eqb a 4) (negated_at ls i (λ l. plain_at ls j (f l))) h) in
      let n = and_right (eqb a 4) (negated_at ls i (λ l. plain_at ls j (f l))) h in
      let p = place_few ls i (λ m. not m.plain and plain_at ls j (f m)) n in
      let (l, m, t) = at_mem ls i (λ m. not m.plain and plain_at ls j (f m)) n in
      let r = place_few ls j (λ m. m.plain and f l m) (and_right (not l.plain) (plain_at ls j (f l)) t) in
      (omega arith, omega arith, omega arith)

  by_section : (k : ℕ) (x y z : Bool) → eqb k 9 and (x or y or z) ≡ true → (x ≡ true → Few) → (y ≡ true → Few) → (z ≡ true → Few) → Bytes (line k a i j)
  by_section k x y z h f g u =
      let e = eqb-true k 9 (and_left (eqb k 9) (x or y or z) h) in
      let r = ⊎_elim (λ t. ⊎_elim f g (or_cases x y t)) u (or_cases (x or y) z (and_right (eqb k 9) (x or y or z) h)) in
      (omega arith, r.0, r.1, r.2)

clash_bytes : (q : Query) → Sections q → (s : Facts) (l : Line) → is_clash q s l ≡ true → Bytes l
unfolding is_clash
clash_bytes q few s (line k a i j) h =
    by_section a i j k _ _ _ h
    (alone_few a i j 2 q.equalities _ (omega arith) few.equal_few)
    (alone_few a i j 3 q.reachability _ (omega arith) few.reach_few)
    (paired_few a i j q.fields _ few.field_few)

-- The lines of a derivation

module _ (q : Query) (ok : Accepted q) (few : Sections q) (few_links : q.links ≤ 3) where
  abbrev n : ℕ
  n = term_count q

  move-bytes : (s : Facts) → Invariant q s → (m : Move) → applies n s m ≡ true → Bytes (move_line m)
  unfolding move_line move_number
  move-bytes s inv (move i r (triple x y z)) app =
      let l = has_link_range s.links i r (triple x y z) (applies_linked n s (move i r (triple x y z)) app) in
      let e = inv.tied.same_links in
      let k = rule_below r in
      let t = move-numbers n s inv.sane i r x y z app in
      let c = ok.term_count_lem in
      (omega arith, omega arith, omega arith, omega arith)

  -- what is known of the branches of a path
  abbrev Kept : Facts → List Fact → Type 0
  Kept s cs = (c : Fact) → Memᴰ c cs → LiveFact n s c × Invariant q (add n s c)

  branches_kept : (s : Facts) → Invariant q s → (m : Move) → applies n s m ≡ true → Kept s (alternatives n s.graph m)
  unfolding branches
  branches_kept s inv m app c mem = (
    alternatives-live n s inv.sane.ranged m (applies_linked n s m app) (applies_met n s m app) c mem,
    branch_invariant q s m inv app (add n s c) (map_intro (add n s) c mem),
  )

  refutes-bytes : {s : Facts} {ls : List Line} → Refutes q s ls → Invariant q s → AllBytes ls
  refutes-bytes r =
      elim r as (λ s ls r. Invariant q s → AllBytes ls) (λ s cs ls r. Kept s cs → AllBytes ls) [
        | ends {s = s} l e ↦ λ inv. bytes-cons (clash_bytes q few s l e) bytes-nil
        | follows {s = s} m free app (rs → below) ↦ λ inv. bytes-cons (move-bytes s inv m app) (below (branches_kept s inv m app))
        | none_left ↦ λ each. bytes-nil
        | one_more {s = s} {c = c} (r → first) (rs → rest) ↦ λ each.
            let here = each c (Memᴰ.head refl) in
            let joins = join_bytes n (branch n s c).pairs ok.term_count_lem (branch_in n s c here.0) in
            bytes-append (bytes-append joins (first here.1)) (rest (λ d m. each d (Memᴰ.tail m)))
      ]

  derivation_fits : {ls : List Line} → Derivation q ls → AllBytes ls
  derivation_fits d =
      subst AllBytes (sym d.headed)
      (bytes-append (join_bytes n (start_joins q).pairs ok.term_count_lem (start_in q ok)) (refutes-bytes d.refutes (start_invariant q ok)))

-- A query that is laid out is short, and so are its sections, in whichever form

section-short : (ps : List (List ℕ)) (i : ℕ) → length (section ps i) ≤ total ps
unfolding section total
section-short [] i = omega arith
section-short (p ∷ ps) zero = omega arith
section-short (p ∷ ps) (suc i) = let r = section-short ps i in omega arith

literals_few : (bytes : List ℕ) → 3 * length (literals bytes) ≤ length bytes
unfolding literals
literals_few [] = omega arith
literals_few (s ∷ []) = omega arith
literals_few (s ∷ a ∷ []) = omega arith
literals_few (s ∷ a ∷ b ∷ rest) = let r = literals_few rest in omega arith

linked_few : (bytes : List ℕ) → 4 * length (linked_literals bytes) ≤ length bytes
unfolding linked_literals
linked_few [] = omega arith
linked_few (s ∷ []) = omega arith
linked_few (s ∷ l ∷ []) = omega arith
linked_few (s ∷ l ∷ a ∷ []) = omega arith
linked_few (s ∷ l ∷ a ∷ b ∷ rest) = let r = linked_few rest in omega arith

-- what is known of a form: it has at most three links, and a place in a section fits a byte
pub record FormBytes (f : CallForm) : Type 0 where
  pub few_links : f.links ≤ 3
  pub few_literals : (bytes : List ℕ) → Sections (f.decode bytes)

module _ (form : Form) (longest : ℕ) (most_form : (n : ℕ) → most (form n) ≡ longest) (excesses : (n : ℕ) → Excesses (form n)) where
  laid_section : (bytes : List ℕ) (ps : List (List ℕ)) → layout_by form bytes ≡ parts ps → (i : ℕ) → length (section ps i) ≤ longest
  unfolding layout_by
  laid_section bytes ps e i =
      let short = laid_short form longest most_form excesses bytes ps e in
      omega (arith, short, section-short ps i, laid_length (form (first_byte bytes)) 0 bytes ps e)

sections-most : (n : ℕ) → most (sections n) ≡ 561
unfolding most sections five_sections four_sections boolean_section
sections-most n = refl

one_link_sections : (bytes : List ℕ) (l : Layout) → layout_by sections bytes ≡ l → Sections (query_of l)
unfolding query_of
one_link_sections bytes (faulty k place) e = record { equal_few = omega arith; reach_few = omega arith; field_few = omega arith }
one_link_sections bytes (parts ps) e =
    let short = laid_section sections 561 sections-most sections-excesses bytes ps e in
    record {
      equal_few = omega (arith, short 1, literals_few (section ps 1));
      reach_few = omega (arith, short 2, literals_few (section ps 2));
      field_few = omega (arith, short 3, literals_few (section ps 3));
    }

three_link_sections : (bytes : List ℕ) (l : Layout) → layout_by link_sections bytes ≡ l → Sections (linked_query l)
unfolding linked_query
three_link_sections bytes (faulty k place) e = record { equal_few = omega arith; reach_few = omega arith; field_few = omega arith }
three_link_sections bytes (parts ps) e =
    let short = laid_section link_sections 637 link-most link_sections_excesses bytes ps e in
    record {
      equal_few = omega (arith, short 1, literals_few (section ps 1));
      reach_few = omega (arith, short 2, linked_few (section ps 2));
      field_few = omega (arith, short 3, literals_few (section ps 3));
    }

pub one_link_bytes : FormBytes one_link_form
unfolding decode layout_of
one_link_bytes = record { few_links = omega arith; few_literals = λ bytes. one_link_sections bytes (layout_by sections bytes) refl }

pub three_link_bytes : FormBytes three_link_form
unfolding decode_links
three_link_bytes = record { few_links = omega arith; few_literals = λ bytes. three_link_sections bytes (layout_by link_sections bytes) refl }

pub derivation_bytes_lem : (f : CallForm) → FormLaws f → FormBytes f → (query : List ℕ) {ls : List Line} → accepts_by f query ≡ true → Derivation (f.decode query) ls → AllBytes ls
derivation_bytes_lem f laws form query h d =
    let few : (f.decode query).links ≤ 3 = subst (λ (k : ℕ). k ≤ 3) (sym (laws.same_links query)) form.few_links in
    derivation_fits (f.decode query) (laws.accepted_query query h) (form.few_literals query) few d
