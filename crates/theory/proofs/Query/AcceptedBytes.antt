-- Acceptance of a query's bytes gives all that the theory asks of the query.
use Prim.Native.Nat.{ℕ, zero, suc, ◌+◌, ◌≤◌, ◌<◌}
use native.Mathlib.Omega.{arith}
use native.Mathlib.Nat.{mul-one}
use mathlib.Core.Path.{◌≡◌, refl, sym, ap, ◌∙◌, subst}
use mathlib.Core.Logic.{⊎_elim}
use mathlib.Core.Bool.{Bool, true, false, cond, false≢true}
use mathlib.Core.List.Memᴰ
use mathlib.Core.List.{List, [], ◌∷◌, ◌++◌, map, Memᴰ}
use mathlib.Core.Option.{Option, none, some, Option-elim}
use lib.ListN.{length, get_or}
use lib.Dec.{eqb, ltb, leb}
use borrow.Author.Tests.{ltb-true, leb-true, eq-eqb}
use Rattle.logic.specs.Search.{◌and◌, ◌or◌, from, at}
use Rattle.logic.specs.Query.{Literal, one_link, entry_of, names_nil, argument_of, link_of, term_count, Role, Section, Form, entry_role, sign_role}
use Rattle.logic.specs.Query.{term_role, number_role, four_sections, boolean_section, five_sections, sections, Layout, faulty, parts, roles_of}
use Rattle.logic.specs.Query.{first_byte, layout_by, layout_of, fault_in, layout_fault, byte_fault, literals, section, query_of, decode}
use Rattle.logic.specs.Calls.{Input, Check, layout_check, byte_check, form_checks, query_checks, refused, refusal_of, accepts, accepts_by}
use Rattle.theory.proofs.Basics.Search.{true-false, and_left, and_right, or_cases, not-true, none-some, keep-none, is_some-false, first_of-none, from-mem, from_intro, map-mem, map_intro, at_left}
use Rattle.theory.proofs.Query.Tied.{InTerms, ToEight, Accepted}
use Rattle.theory.proofs.Query.Bytes.{Allows, faultless_allowed, Regular, Part, part_at, first-sized}
use Rattle.theory.proofs.Query.Bytes.{layout_numbers, LayoutNumber, Excesses, three_number, retired_number}
use Rattle.theory.proofs.Query.Bytes.{Numbered, layout_numbered, entry_allowed, literals-link, literals-allowed}

-- The checks of a form of query

unmet : (k : ℕ) (o : Option ℕ) → Option-elim o none (λ place. some (refused k place)) ≡ none → o ≡ none
unfolding Option-elim
unmet k none h = refl
unmet k (some place) h = absurd (none-some (sym h))

pub layout_own : (form : Form) (k : ℕ) → LayoutNumber k → Memᴰ (layout_check form k) (form_checks form)
unfolding form_checks layout_numbers from
layout_own form k m = Memᴰ.append_left (map (byte_check form) (from 4 5)) (map_intro (layout_check form) k m)

pub byte_own : (form : Form) (k : ℕ) → 5 ≤ k → k ≤ 8 → Memᴰ (byte_check form k) (form_checks form)
unfolding form_checks layout_numbers from
byte_own form k l u = Memᴰ.append_right (map (layout_check form) layout_numbers) (map_intro (byte_check form) k (from_intro 4 5 k l (omega arith)))

-- what holds of each kind of check holds of every check of a form
pub form_elim : (form : Form) (P : Check → Type 0) → ((k : ℕ) → LayoutNumber k → P (layout_check form k)) →
    ((k : ℕ) → 5 ≤ k → k ≤ 8 → P (byte_check form k)) → (c : Check) → Memᴰ c (form_checks form) → P c
unfolding form_checks layout_numbers from
form_elim form P l b c m = ⊎_elim layouts bytes (Memᴰ.append_cases (map (layout_check form) layout_numbers) m)
  where
    layouts : Memᴰ c (map (layout_check form) layout_numbers) → P c
    layouts n = let (k, o, e) = map-mem (layout_check form) c layout_numbers n in subst P (sym e) (l k o)

    bytes : Memᴰ c (map (byte_check form) (from 4 5)) → P c
    bytes n = let (k, o, e) = map-mem (byte_check form) c (from 4 5) n in let u = from-mem 4 5 k o in subst P (sym e) (b k u.0 (omega arith))

-- none of them stands
pub record Passes (form : Form) (bytes : List ℕ) : Type 0 where
  pub layouts : (k : ℕ) → LayoutNumber k → layout_fault form k bytes ≡ none
  pub single : (k : ℕ) → 5 ≤ k → k ≤ 8 → byte_fault form k bytes ≡ none

pub form-passes : (form : Form) (i : Input) → ((c : Check) → Memᴰ c (form_checks form) → c.place i ≡ none) → Passes form i.query
unfolding layout_check byte_check
form-passes form i h =
    record {
      layouts = λ k m. h (layout_check form k) (layout_own form k m);
      single = λ k l u. h (byte_check form k) (byte_own form k l u);
    }

pub query-passes : (bytes : List ℕ) → accepts bytes ≡ true → Passes sections bytes
unfolding accepts_by refusal_of query_checks
query-passes bytes passes =
    form-passes sections (record { order = []; query = bytes; room = 0 })
    (λ c m. unmet c.number _ (first_of-none _ c (is_some-false _ (not-true passes)) m))

-- where the walk from the front meets no refusal, there are parts
pub laid_out : (form : Form) (bytes : List ℕ) → Excesses (form (first_byte bytes)) → ((k : ℕ) → LayoutNumber k → layout_fault form k bytes ≡ none) →
    (ps : List (List ℕ)) × (layout_by form bytes ≡ parts ps)
unfolding layout_fault layout_by fault_in
laid_out form bytes excesses passed = at_layout (layout_by form bytes) refl (layout_numbered (form (first_byte bytes)) 0 bytes excesses)
  where
    at_layout : (l : Layout) → layout_by form bytes ≡ l → Numbered l → (ps : List (List ℕ)) × (layout_by form bytes ≡ parts ps)
    at_layout (faulty k place) e n =
        let no_place : fault_in k (faulty k place) ≡ none = ap (fault_in k) (sym e) ∙ passed k n in
        absurd (true-false (eq-eqb k k refl) (keep-none (eqb k k) place no_place))
    at_layout (parts ps) e n = (ps, e)

-- What the roles allow

up_to : (n b : ℕ) → ltb 0 b and leb b n ≡ true → (1 ≤ b) × (b ≤ n)
up_to n b h = (ltb-true 0 b (and_left (ltb 0 b) (leb b n) h), leb-true b n (and_right (ltb 0 b) (leb b n) h))

-- an entry that is not nil's is below its own term
pub entry_allows : (t b : ℕ) → 1 ≤ t → Allows (entry_role t) b → cond (eqb b 255) 0 b < t
unfolding entry_role
entry_allows t b one h = go (eqb b 255) (h (omega arith))
  where
    go : (c : Bool) → ltb b t or c ≡ true → cond c 0 b < t
    go true e = one
    go false e = ltb-true b t (⊎_elim (λ p. p) (λ p. absurd (false≢true p)) (or_cases (ltb b t) false e))

pub term_allows : (n b : ℕ) → Allows (term_role n) b → (1 ≤ b) × (b ≤ n)
unfolding term_role
term_allows n b h = up_to n b (h (omega arith))

pub number_allows : (b : ℕ) → Allows number_role b → ToEight b
unfolding number_role
number_allows b h = up_to 8 b (h (omega arith))

-- The parts of a query of n terms, which is the count of its first section: what its first four sections give

module _ (n : ℕ) (ps : List (List ℕ)) (count : length (section ps 0) ≡ n) (part : (i : ℕ) (s : Section) → at (four_sections n) (suc i) ≡ some s → Part s (section ps i)) where
  in_terms : (b : ℕ) → Allows (term_role n) b → InTerms (query_of (parts ps)) b
  unfolding query_of term_count
  in_terms b h = rw count (term_allows n b h)

  parts_accepted : Accepted (query_of (parts ps))
  unfolding query_of term_count link_of entry_of names_nil argument_of four_sections at
  parts_accepted =
      record {
        term_count_lem = let p = part 0 _ refl in omega (arith, p.within, p.sized);
        entry_below = λ t h. entry_of_lem t h.0 h.1;
        some_link = omega arith;
        entry_linked = λ t h one. (omega arith, omega arith);
        equal_terms = λ l m. terms_of 1 refl l m;
        reach_terms = λ l m. terms_of 2 refl l m;
        reach_linked = λ l m. let e = literals-link (section ps 2) l m in (omega arith, omega arith);
        field_number = λ l m. number_allows l.left (literals_of number_role (term_role n) 3 refl l m).0;
        field_term = λ l m. in_terms l.right (literals_of number_role (term_role n) 3 refl l m).1;
      }
    where
      entry_of_lem : (t : ℕ) → 1 ≤ t → t ≤ length (section ps 0) → argument_of (one_link (section ps 0)) t < t
      entry_of_lem zero l u = absurd (omega arith)
      entry_of_lem (suc t) l u =
          let p = part 0 _ refl in
          let sized = p.sized in
          omega (arith, entry_allows (1 + t) (get_or (section ps 0) t 0) (omega arith) (entry_allowed entry_role p.count 1 (section ps 0) p.allowed t (omega arith) u))

      literals_of : (left right : Role) (i : ℕ) → at (four_sections n) (suc i) ≡ some
          (record { limit = 60; excess = 3; width = 3; roles = λ j. sign_role ∷ left ∷ right ∷ [] }) → (l : Literal) →
          Memᴰ l (literals (section ps i)) → Allows left l.left × Allows right l.right
      literals_of left right i e = let p = part i _ e in literals-allowed sign_role left right p.count 1 (section ps i) p.sized p.allowed

      terms_of : (i : ℕ) → at (four_sections n) (suc i) ≡ some
          (record { limit = 60; excess = 3; width = 3; roles = λ j. sign_role ∷ term_role n ∷ term_role n ∷ [] }) → (l : Literal) →
          Memᴰ l (literals (section ps i)) → InTerms (query_of (parts ps)) l.left × InTerms (query_of (parts ps)) l.right
      terms_of i e l m = let a = literals_of (term_role n) (term_role n) i e l m in (in_terms l.left a.0, in_terms l.right a.1)

-- A form whose first four sections are these

abbrev pub four_and : Form → Form
four_and extra n = four_sections n ++ extra n

-- what is asked of the sections behind them
pub record Orderly (extra : Form) : Type 0 where
  pub regular : (n : ℕ) → Regular (extra n)
  pub excesses : (n : ℕ) → Excesses (extra n)

pub record LaidOut (extra : Form) (bytes : List ℕ) : Type 0 where
  pub ps : List (List ℕ)
  pub laid : layout_by (four_and extra) bytes ≡ parts ps
  pub counted : length (section ps 0) ≡ first_byte bytes
  pub part : (i : ℕ) (s : Section) → at (four_and extra (first_byte bytes)) (suc i) ≡ some s → Part s (section ps i)

module _ (extra : Form) (orderly : Orderly extra) where
  four_regular : (n : ℕ) → Regular (four_and extra n)
  unfolding four_sections
  four_regular n = (λ i. refl, (λ i. refl, (λ i. refl, (λ i. refl, orderly.regular n))))

  pub four_excesses : (n : ℕ) → Excesses (four_and extra n)
  unfolding four_sections
  four_excesses n = (three_number, (three_number, (three_number, (three_number, orderly.excesses n))))

  pub form_laid : (bytes : List ℕ) → Passes (four_and extra) bytes → LaidOut extra bytes
  unfolding layout_by byte_fault four_sections
  form_laid bytes passes =
      let n : ℕ = first_byte bytes in
      let l = laid_out (four_and extra) bytes (four_excesses n) passes.layouts in
      record {
        ps = l.0;
        laid = l.1;
        counted = first-sized _ _ 0 bytes l.0 l.1 ∙ mul-one n;
        part = part_at (four_and extra n) 0 bytes l.0 (four_regular n) l.1 (faultless_allowed 0 (roles_of (four_and extra n) bytes) bytes passes.single);
      }

pub laid_accepted : (extra : Form) (bytes : List ℕ) → LaidOut extra bytes → Accepted (query_of (layout_by (four_and extra) bytes))
laid_accepted extra bytes l =
    subst Accepted (ap query_of (sym l.laid))
    (parts_accepted (first_byte bytes) l.ps l.counted (λ i s e. l.part i s (at_left (four_sections (first_byte bytes)) (extra (first_byte bytes)) (suc i) s e)))

-- five sections, where so many booleans pass
module _ (most excess : ℕ) (numbered : LayoutNumber excess) where
  abbrev pub booleans : Form
  booleans n = boolean_section most excess ∷ []

  pub booleans_orderly : Orderly booleans
  unfolding boolean_section
  booleans_orderly = record { regular = λ n. (λ i. refl, tt); excesses = λ n. (numbered, tt) }

  pub five_excesses : (n : ℕ) → Excesses (five_sections most excess n)
  unfolding five_sections
  five_excesses = four_excesses booleans booleans_orderly

  pub five_laid : (bytes : List ℕ) → Passes (five_sections most excess) bytes → LaidOut booleans bytes
  unfolding five_sections
  five_laid bytes passes = form_laid booleans booleans_orderly bytes passes

  pub five_accepted : (bytes : List ℕ) → Passes (five_sections most excess) bytes → Accepted (query_of (layout_by (five_sections most excess) bytes))
  unfolding five_sections
  five_accepted bytes passes = laid_accepted booleans bytes (five_laid bytes passes)

pub sections-excesses : (n : ℕ) → Excesses (sections n)
unfolding sections
sections-excesses = five_excesses _ 26 retired_number

pub accepted : (bytes : List ℕ) → accepts bytes ≡ true → Accepted (decode bytes)
unfolding decode layout_of sections
accepted bytes h = five_accepted _ 26 retired_number bytes (query-passes bytes h)

-- every query in the form of 01 knows one link
pub decode-links : (bytes : List ℕ) → (decode bytes).links ≡ 1
unfolding decode query_of
decode-links bytes = go (layout_of bytes)
  where
    go : (l : Layout) → (query_of l).links ≡ 1
    go (faulty k place) = refl
    go (parts ps) = refl
