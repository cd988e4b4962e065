-- The checks of a form from what the walk from the front and the search of the bytes answer.
use Prim.Native.Nat.{ℕ, ◌+◌, ◌-◌, ◌*◌, ◌≤◌}
use native.Mathlib.Nat.{mul_comm, mul-one}
use native.Mathlib.Omega.{arith}
use mathlib.Core.Path.{◌≡◌, refl, sym, ap, ◌∙◌, subst}
use mathlib.Core.Logic.{⊎_elim}
use mathlib.Core.Bool.{true}
use mathlib.Core.List.Memᴰ
use mathlib.Core.List.{List, [], ◌∷◌, Memᴰ}
use Rattle.std.specs.Prelude.{Result, Ok, Err}
use mathlib.Core.Option.{Option, none, some, Option-elim}
use lib.ListN.{length, take, drop, length-drop}
use lib.Seq.{drop-length, length-take-le}
use Rattle.logic.specs.Search.{from, keep, is_some, or_else, first_of}
use Rattle.logic.specs.Query.{one_link, term_count, Form, four_sections, boolean_section, five_sections, faulty, parts}
use Rattle.logic.specs.Query.{layout, first_byte, layout_by, fault_in, layout_fault, byte_fault, literals, section, query_of}
use Rattle.logic.specs.Calls.{Input, Answer, refused, layout_check, byte_check, form_checks, refusal_of, accepts, accepts_by}
use Rattle.theory.proofs.Query.Bytes.{layout_numbers, LayoutNumber, Excesses, Numbered, layout_numbered}
use Rattle.theory.proofs.Query.AcceptedBytes.{five_excesses}
use Rattle.entries.specs.Entries.{width_of}
use Rattle.query.specs.declared.Layout.{Layout}
use Rattle.query.specs.declared.FullLayout.{FullLayout}
use Rattle.refusals.specs.declared.Refusal.{Refusal}
use Rattle.query.specs.Forms.{entry_kind, reach_kind, form_by}
use Rattle.query.specs.Sections.{Stands, Sections}
use Rattle.query.specs.LaysOut.{LaysOutAs, FullLaysOut}
use Rattle.query.proofs.Reading.{with_limit, pass_parts}
use Rattle.query_checks.specs.Answers.{ByteAnswer, FullCheckedAs, CheckedAs}

-- Refusals 2, 3, 26 and 4

module _ (form : Form) (place : ℕ) (i : Input) where
  abbrev Refuses : ℕ → Type 0
  Refuses k = layout_by form i.query ≡ faulty k place → refusal_of (form_checks form) i ≡ some (refused k place)

  two : Refuses 2
  unfolding refusal_of form_checks layout_check layout_fault fault_in keep first_of or_else Option-elim
  two e = rw e

  three : Refuses 3
  unfolding refusal_of form_checks layout_check layout_fault fault_in keep first_of or_else Option-elim
  three e = rw e

  retired : Refuses 26
  unfolding refusal_of form_checks layout_check layout_fault fault_in keep first_of or_else Option-elim
  retired e = rw e

  four : Refuses 4
  unfolding refusal_of form_checks layout_check layout_fault fault_in keep first_of or_else Option-elim
  four e = rw e

  faulty_refused : (k : ℕ) → LayoutNumber k → Refuses k
  unfolding layout_numbers
  faulty_refused k =
      first_of_lem two (first_of_lem three (first_of_lem retired (first_of_lem four (λ m. absurd (Memᴰ.not-nil m)))))
    where
      first_of_lem : {n : ℕ} {ns : List ℕ} → Refuses n → (Memᴰ k ns → Refuses k) → Memᴰ k (n ∷ ns) → Refuses k
      first_of_lem h rest m = ⊎_elim (λ e. subst Refuses (sym e) h) rest (Memᴰ.cases_cons m)

module _ (form : Form) (bytes : List ℕ) where
  pub layout_refused : (k place : ℕ) → Excesses (form (first_byte bytes)) → layout_by form bytes ≡ faulty k place → (i : Input) → i.query ≡ bytes →
      refusal_of (form_checks form) i ≡ some (refused k place)
  unfolding layout_by
  layout_refused k place excesses e i q =
      let numbered : Numbered (faulty k place) = rw e at (layout_numbered (form (first_byte bytes)) 0 bytes excesses) in
      faulty_refused form place i k numbered (ap (layout_by form) q ∙ e)

  -- Refusals 5 to 8

  pub byte_answer : ℕ → Option Answer
  byte_answer k = Option-elim (byte_fault form k bytes) none (λ place. some (refused k place))

  pub answer_some : (k place : ℕ) → byte_fault form k bytes ≡ some place → byte_answer k ≡ some (refused k place)
  unfolding byte_answer Option-elim
  answer_some k place e = rw e

  pub answer_none : (k : ℕ) → byte_fault form k bytes ≡ none → byte_answer k ≡ none
  unfolding byte_answer Option-elim
  answer_none k e = rw e

  pub no_answer : ((k : ℕ) → byte_fault form k bytes ≡ none) → (ks : List ℕ) → first_of byte_answer ks ≡ none
  unfolding first_of or_else
  no_answer h [] = refl
  no_answer h (k ∷ ks) = rw (answer_none k (h k)) (no_answer h ks)

  pub byte_checks : (ps : List (List ℕ)) → layout_by form bytes ≡ parts ps → (i : Input) → i.query ≡ bytes → refusal_of (form_checks form) i ≡ first_of byte_answer (from (9 - 5) 5)
  unfolding refusal_of form_checks layout_check byte_check layout_fault fault_in first_of or_else Option-elim byte_answer from
  byte_checks ps e i q = rw (q, e)

-- with one link the five sections are those of 01
pub one_form : (most excess : ℕ) → five_sections most excess ≡ form_by 1 most excess
unfolding five_sections four_sections boolean_section form_by entry_kind reach_kind
one_form most excess = refl

-- a refusal of the walk from the front over the five sections
pub five_refused : (bytes : List ℕ) (most excess k place : ℕ) → layout_by (form_by 1 most excess) bytes ≡ faulty k place →
    Memᴰ excess (2 ∷ 3 ∷ 26 ∷ 4 ∷ []) → (i : Input) → i.query ≡ bytes → refusal_of (form_checks (five_sections most excess)) i ≡ some (refused k place)
unfolding layout_numbers
five_refused bytes most excess k place e m = layout_refused (five_sections most excess) bytes k place (five_excesses most excess m (first_byte bytes)) (rw one_form e)

-- the same, of a number that stands for the one asked for
pub five_refused_as : (bytes : List ℕ) (most excess named k place : ℕ) → (Memᴰ excess (2 ∷ 3 ∷ 26 ∷ 4 ∷ []) → named ≡ excess) → layout_by (form_by 1 most named) bytes ≡ faulty k place →
    Memᴰ excess (2 ∷ 3 ∷ 26 ∷ 4 ∷ []) → (i : Input) → i.query ≡ bytes → refusal_of (form_checks (five_sections most excess)) i ≡ some (refused k place)
five_refused_as bytes most excess named k place same e m =
    five_refused bytes most excess k place (subst (λ n. layout_by (form_by 1 most n) bytes ≡ faulty k place) (same m) e) m

-- of these numbers, one that is none of the others is 3
module _ (k : ℕ) where
  passed : {n : ℕ} {ns : List ℕ} → (k ≡ n → ⊥) → (Memᴰ k ns → 3 ≡ k) → Memᴰ k (n ∷ ns) → 3 ≡ k
  passed other rest m = ⊎_elim (λ e. absurd (other e)) rest (Memᴰ.cases_cons m)

  pub is_three : (k ≡ 2 → ⊥) → (k ≡ 4 → ⊥) → (k ≡ 26 → ⊥) → Memᴰ k (2 ∷ 3 ∷ 26 ∷ 4 ∷ []) → 3 ≡ k
  is_three two four retired = passed two three
    where
      last : Memᴰ k (26 ∷ 4 ∷ []) → 3 ≡ k
      last = passed retired (passed four (λ m. absurd (Memᴰ.not-nil m)))

      three : Memᴰ k (3 ∷ 26 ∷ 4 ∷ []) → 3 ≡ k
      three m = ⊎_elim (λ e. sym e) last (Memᴰ.cases_cons m)

-- The sections

nothing_left : (bytes : List ℕ) → layout [] (length bytes) (drop (length bytes) bytes) ≡ parts []
unfolding layout
nothing_left bytes = rw drop-length

module _ (full : FullLayout) (bytes : List ℕ) (s : Sections full bytes) (most excess : ℕ) (few : full.boolean_count ≤ most) where
  abbrev l : Layout
  l = full.layout

  abbrev pub section_parts : List (List ℕ)
  section_parts =
      take (l.terms * width_of (entry_kind l.links)) (drop 1 bytes)
      ∷ take (l.equal_count * 3) (drop (s.second + 1) bytes)
      ∷ take (l.reach_count * width_of (reach_kind l.links)) (drop (s.third + 1) bytes)
      ∷ take (l.field_count * 3) (drop (s.fourth + 1) bytes)
      ∷ take (full.boolean_count * 2) (drop (s.fifth + 1) bytes)
      ∷ []

  pub laid_out : layout_by (form_by l.links most excess) bytes ≡ parts section_parts
  unfolding layout_by form_by
  laid_out =
      pass_parts _ _ bytes 0 l.terms s.second s.terms _
      (pass_parts _ _ bytes s.second l.equal_count s.third s.equalities _
      (pass_parts _ _ bytes s.third l.reach_count s.fourth s.reachability _
      (pass_parts _ _ bytes s.fourth l.field_count s.fifth s.fields _
      (pass_parts _ [] bytes s.fifth full.boolean_count (length bytes) (with_limit most s.booleans few) [] (nothing_left bytes)))))

  -- the bytes of a section at its place
  pub part_is : (count width at place : ℕ) → place ≡ at + 1 → take (count * width) (drop (at + 1) bytes) ≡ take (width * count) (drop place bytes)
  part_is count width at place e = rw (e, mul_comm count width)

  -- a query in the form of 01
  module _ (one : l.links ≡ 1) where
    terms_stand : Stands bytes 16 1 0 l.terms s.second
    unfolding entry_kind
    terms_stand = rw one at s.terms

    reach_stands : Stands bytes 60 3 s.third l.reach_count s.fourth
    unfolding reach_kind
    reach_stands = rw one at s.reachability

    abbrev one_parts : List (List ℕ)
    one_parts =
        take (l.terms * 1) (drop 1 bytes)
        ∷ take (l.equal_count * 3) (drop (s.second + 1) bytes)
        ∷ take (l.reach_count * 3) (drop (s.third + 1) bytes)
        ∷ take (l.field_count * 3) (drop (s.fourth + 1) bytes)
        ∷ take (full.boolean_count * 2) (drop (s.fifth + 1) bytes)
        ∷ []

    one_laid : layout_by (five_sections most excess) bytes ≡ parts one_parts
    unfolding five_sections four_sections boolean_section form_by entry_kind reach_kind
    one_laid = rw one at laid_out

    sized : length (take (l.terms * 1) (drop 1 bytes)) ≡ l.terms
    sized = let t = terms_stand in length-take-le (l.terms * 1) (drop 1 bytes) (rw length-drop (omega (arith, t.fits, t.next_is))) ∙ mul-one l.terms

    four_lays_out : LaysOutAs (query_of (layout_by (five_sections most excess) bytes)) l bytes
    unfolding query_of section term_count
    four_lays_out =
        record {
          term_count_lem = rw one_laid (sym sized);
          terms_within = s.terms.within;
          entries_fit = let t = terms_stand in omega (arith, t.fits, t.next_is);
          one_link_lem = one;
          links_are = rw one_laid refl;
          entries_are = rw one_laid (ap (λ (m : ℕ). one_link (take m (drop 1 bytes))) (mul-one l.terms));
          equal_within = s.equalities.within;
          equal_fit = let t = s.equalities in omega (arith, t.fits, t.next_is, s.equal_at);
          equal_are = rw one_laid (ap literals (part_is l.equal_count 3 s.second l.equal_at s.equal_at));
          reach_within = s.reachability.within;
          reach_fit = let t = reach_stands in omega (arith, t.fits, t.next_is, s.reach_at);
          reach_are = rw one_laid (ap literals (part_is l.reach_count 3 s.third l.reach_at s.reach_at));
          field_within = s.fields.within;
          field_fit = let t = s.fields in omega (arith, t.fits, t.next_is, s.field_at);
          field_are = rw one_laid (ap literals (part_is l.field_count 3 s.fourth l.field_at s.field_at));
        }

    pub lays_out : FullLaysOut full bytes most excess
    unfolding section
    lays_out =
        record {
          four = four_lays_out;
          boolean_within = few;
          boolean_fit = let t = s.booleans in omega (arith, t.fits, t.next_is, s.boolean_at);
          ps = one_parts;
          laid = one_laid;
          boolean_are = part_is full.boolean_count 2 s.fifth full.boolean_at s.boolean_at;
        }

-- what the search of the bytes answers, of a query in the form of 01
pub five_checked : (r : Result FullLayout Refusal) (l : FullLayout) (bytes : List ℕ) (most excess : ℕ) → Sections l bytes → l.boolean_count ≤ most →
    l.layout.links ≡ 1 → ByteAnswer r l (form_by l.layout.links most excess) bytes → FullCheckedAs r bytes most excess
five_checked (Err e) l bytes most excess s few one h = λ m. rw (one_form, ← one) h
five_checked (Ok l') l bytes most excess s few one h =
    (rw (one_form, ← one) h.0, subst (λ (m : FullLayout). FullLaysOut m bytes most excess) (sym h.1) (lays_out l bytes s most excess few one))

-- what is said of the number of a fault, said of the number itself
module _ (bytes : List ℕ) (most : ℕ) {number k : ℕ} (same : number ≡ k) where
  pub asked_err : (e : Refusal) → FullCheckedAs (Err e) bytes most number → FullCheckedAs (Err e) bytes most k
  asked_err e h = subst (λ n. FullCheckedAs (Err e) bytes most n) same h

  pub asked_ok : (l : FullLayout) → FullCheckedAs (Ok l) bytes most number → FullCheckedAs (Ok l) bytes most k
  asked_ok l h = subst (λ n. FullCheckedAs (Ok l) bytes most n) same h

-- an accepted query passes every check
pub checked-accepts : (l : Layout) (bytes : List ℕ) → CheckedAs (Ok l) bytes → accepts bytes ≡ true
unfolding accepts_by is_some
checked-accepts l bytes h = rw (h.0 (record { order = []; query = bytes; room = 0 }) refl)
