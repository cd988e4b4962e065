-- The bytes of the sixth section, literal by literal; and refusals 2 to 8 and 26 of six sections from those of the five and of the sixth.
use Prim.Native.Nat.{ℕ, zero, suc, ◌+◌, ◌-◌, ◌≤◌, ◌<◌}
use native.Mathlib.Omega.{arith}
use native.Mathlib.Nat.{sub-zero, sub-eq-zero_of_le}
use mathlib.Core.Path.{◌≡◌, refl, sym, ap, ◌∙◌, subst}
use mathlib.Core.Logic.{◌⊎◌, ⊎_elim}
use mathlib.Core.List.{List, [], ◌∷◌, ◌++◌}
use mathlib.Core.Option.{none, some}
use Rattle.std.specs.Prelude.{Ok}
use lib.ListN.{length, get_or, take, drop}
use Rattle.logic.specs.Search.{from, flat_map, or_else, first_of}
use Rattle.logic.specs.Query.{Role, term_role, sections, faulty, parts, layout, layout_by, layout_of, first_byte, role_fault, byte_fault}
use Rattle.logic.specs.Calls.{Input, query_checks, refused, refusal_of}
use Rattle.theory.proofs.Query.Bytes.{LayoutNumber, Numbered, layout_numbered}
use Rattle.theory.proofs.Query.AcceptedBytes.{sections-excesses}
use Rattle.query.specs.declared.Layout as code
use Rattle.query_checks.specs.Answers.{CheckedAs}
use Rattle.query_checks.proofs.Checks.{layout_refused}
use Rattle.query_checks.proofs.Checks.{checked-accepts}
use Rattle.entries.proofs.Faults.{or_else-some, or_else_next, append_here, append_next, entries_left, entries_next}
use Rattle.between_search.specs.Bytes.{between_section, six_sections, six_layout, six_checks}
use Rattle.between_search.proofs.Accepted.{six_excesses}
use Rattle.between_checks.specs.Answers.{triple_roles, sixth_fault, Sixth, SixCheckedAs}
use Rattle.between_checks.proofs.Told.{nat_cases, answer_at, First, first_is, none_is, faults, form-bytes, told_refused, told_accepted}
use Rattle.between_checks.proofs.Six.{early, ended, Five, five, sixth_other, sixth_refused, laid_five, terms_five, six_laid, six_says, six_fault}

-- The answers, for a number and a place
abbrev pub FiveRefused : ℕ → ℕ → List ℕ → Type 0
FiveRefused k place bytes = (i : Input) → i.query ≡ bytes → refusal_of query_checks i ≡ some (refused k place)

abbrev pub SixRefused : ℕ → ℕ → List ℕ → Type 0
SixRefused k place bytes = (i : Input) → i.query ≡ bytes → refusal_of six_checks i ≡ some (refused k place)

abbrev pub FirstBelow : ℕ → ℕ → ℕ → ℕ → ℕ → List ℕ → ℕ → Type 0
FirstBelow k place n at count bytes limit =
    (5 ≤ k) × (k ≤ 8) × (k < limit) × (sixth_fault k n at count bytes ≡ some place) × ((j : ℕ) → 6 ≤ j → j < k → sixth_fault j n at count bytes ≡ none)

abbrev pub NoneBelow : ℕ → ℕ → ℕ → List ℕ → ℕ → Type 0
NoneBelow n at count bytes limit = (j : ℕ) → 6 ≤ j → j < limit → j ≤ 7 → sixth_fault j n at count bytes ≡ none

-- The term numbers that are left of a literal

abbrev pub terms_left : ℕ → ℕ → List Role
terms_left n zero = []
terms_left n (suc m) = term_role n ∷ terms_left n m

pub terms_end : (n m i : ℕ) → m ≤ i → terms_left n (m - i) ≡ []
terms_end n m i h = ap (terms_left n) (sub-eq-zero_of_le h)

pub terms_next : (n m i : ℕ) → i < m → terms_left n (m - i) ≡ term_role n ∷ terms_left n (m - (i + 1))
terms_next n m i h = ap (terms_left n) left
  where
    left : m - i ≡ suc (m - (i + 1))
    left = omega arith

-- The literals left of `count` behind the first i

module _ (k n count : ℕ) (bytes : List ℕ) (i at : ℕ) where
  pub sixth_end : count ≤ i → role_fault k at (entries_left (triple_roles n) count i) (drop at bytes) ≡ none
  unfolding flat_map from role_fault
  sixth_end h = rw (sub-eq-zero_of_le h)

  next_triple : i < count → role_fault k at (entries_left (triple_roles n) count i) (drop at bytes) ≡ role_fault k at (triple_roles n (i + 1) ++ entries_left (triple_roles n) count (i + 1)) (drop at bytes)
  next_triple h = ap (λ (rs : List Role). role_fault k at rs (drop at bytes)) (entries_next (triple_roles n) count i h)

  pub sixth-here : (p : ℕ) → i < count → role_fault k at (triple_roles n (i + 1)) (drop at bytes) ≡ some p → role_fault k at (entries_left (triple_roles n) count i) (drop at bytes) ≡ some p
  sixth-here p h e = next_triple h ∙ append_here k at 4 (triple_roles n (i + 1)) (entries_left (triple_roles n) count (i + 1)) bytes refl e

  pub sixth_next : i < count → role_fault k at (triple_roles n (i + 1)) (drop at bytes) ≡ none →
      role_fault k at (entries_left (triple_roles n) count i) (drop at bytes) ≡ role_fault k (at + 4) (entries_left (triple_roles n) count (i + 1)) (drop (at + 4) bytes)
  sixth_next h e = next_triple h ∙ append_next k at 4 (triple_roles n (i + 1)) (entries_left (triple_roles n) count (i + 1)) bytes refl e

pub sixth_whole : (k n at count : ℕ) (bytes : List ℕ) → sixth_fault k n at count bytes ≡ role_fault k at (entries_left (triple_roles n) count 0) (drop at bytes)
unfolding sixth_fault
sixth_whole k n at count bytes = rw (sub-zero count)

-- The walk from the front, and the bytes of six sections that are laid out

six_refused : (bytes : List ℕ) (k place : ℕ) → six_layout bytes ≡ faulty k place → (i : Input) → i.query ≡ bytes → refusal_of six_checks i ≡ some (refused k place)
unfolding six_layout six_checks
six_refused bytes k place e i q = layout_refused six_sections bytes k place (six_excesses (first_byte bytes)) e i q

six_bytes : (bytes : List ℕ) (ps : List (List ℕ)) → six_layout bytes ≡ parts ps → (i : Input) → i.query ≡ bytes → refusal_of six_checks i ≡ first_of (answer_at (faults six_sections bytes)) (from 4 5)
unfolding six_layout six_checks
six_bytes bytes ps e i q = form-bytes six_sections bytes ps e i q

module _ (bytes : List ℕ) (at count n : ℕ) (sixth : Sixth bytes at count) (first : n ≡ get_or bytes 0 0) where
  f : Five bytes at
  f = five bytes at sixth.follows

  abbrev six_parts : List (List ℕ)
  six_parts = f.laid_parts ++ (drop (at + 1) bytes ∷ [])

  laid : six_layout bytes ≡ parts six_parts
  laid = six_laid bytes at f count sixth

  faults_are : (k : ℕ) → byte_fault six_sections k bytes ≡ or_else (byte_fault sections k (take at bytes)) (sixth_fault k n (at + 1) count bytes)
  unfolding first_byte
  faults_are k = six_fault bytes at f count sixth k ∙ ap (λ (m : ℕ). or_else (byte_fault sections k (take at bytes)) (sixth_fault k m (at + 1) count bytes)) (sym first)

  no_fault : (k : ℕ) → byte_fault sections k (take at bytes) ≡ none → sixth_fault k n (at + 1) count bytes ≡ none → byte_fault six_sections k bytes ≡ none
  no_fault k a b = faults_are k ∙ or_else_next _ a ∙ b

  five-none : (j : ℕ) → 5 ≡ j → sixth_fault j n (at + 1) count bytes ≡ none
  five-none j q = subst (λ (x : ℕ). sixth_fault x n (at + 1) count bytes ≡ none) q (sixth_other 5 n (at + 1) count bytes refl refl)

  -- none of 6 and 7 below the limit is none of 5 to 8
  sixth-none : (limit : ℕ) → NoneBelow n (at + 1) count bytes limit → (j : ℕ) → 5 ≤ j → j < limit → j < 9 → sixth_fault j n (at + 1) count bytes ≡ none
  sixth-none limit h j a b c =
      ⊎_elim (five-none j)
      (λ l. ⊎_elim
      (λ q. subst (λ (x : ℕ). sixth_fault x n (at + 1) count bytes ≡ none) (sym q) (sixth_other 8 n (at + 1) count bytes refl refl))
      (λ u. h j l b (omega arith))
      (nat_cases j 8 (omega arith)))
      (nat_cases 5 j a)

  -- the sixth meets a refusal below the first that the five meet
  pub sixth-met : (limit k place : ℕ) → ((j : ℕ) → 5 ≤ j → j < limit → byte_fault sections j (take at bytes) ≡ none) →
      FirstBelow k place n (at + 1) count bytes limit → SixRefused k place bytes
  sixth-met limit k place before s i q =
      six_bytes bytes six_parts laid i q
      ∙ first_is (faults six_sections bytes) 4 5 k place
      (record {
        from_on = s.0;
        below = omega (arith, s.1);
        none_before = λ j a b. no_fault j (before j a (omega (arith, s.2))) (⊎_elim (five-none j) (λ l. s.4 j l b) (nat_cases 5 j a));
        here = faults_are k ∙ or_else_next _ (before k s.0 s.2) ∙ s.3;
      })

  pub five-met : (k place : ℕ) → First (λ j. byte_fault sections j (take at bytes)) 5 9 k place → NoneBelow n (at + 1) count bytes k → SixRefused k place bytes
  five-met k place r s i q =
      six_bytes bytes six_parts laid i q
      ∙ first_is (faults six_sections bytes) 4 5 k place
      (record {
        from_on = r.from_on;
        below = r.below;
        none_before = λ j a b. no_fault j (r.none_before j a b) (sixth-none k s j a b (omega (arith, r.below)));
        here = faults_are k ∙ or_else-some _ r.here;
      })

  -- what the five's checks say
  pub five_refused : (k place : ℕ) → FiveRefused k place (take at bytes) → First (λ j. byte_fault sections j (take at bytes)) 5 9 k place
  five_refused k place h = ⊎_elim (λ e. absurd (parts_faulty (sym (laid_five bytes at f) ∙ e))) (λ r. r.2) (told_refused (take at bytes) k place h)
    where
      parts_faulty : {k place : ℕ} {ps : List (List ℕ)} → parts ps ≡ faulty k place → ⊥
      parts_faulty e = let z : ◌≡◌ {A = ℕ} 0 1 = cc in omega arith

  pub five_accepted : (l : code.Layout) → CheckedAs (Ok l) (take at bytes) → (j : ℕ) → 5 ≤ j → j < 9 → byte_fault sections j (take at bytes) ≡ none
  five_accepted l h = (told_accepted (take at bytes) h.0).2

  pub all_passed : (l : code.Layout) → CheckedAs (Ok l) (take at bytes) → NoneBelow n (at + 1) count bytes 9 →
      SixCheckedAs (Ok (record { base = l; at = at; count = count })) bytes
  all_passed l h s = (
    λ i q. six_bytes bytes six_parts laid i q ∙ none_is (faults six_sections bytes) 4 5 (λ j a b. no_fault j (five_accepted l h j a b) (sixth-none 9 s j a b b)),
    record {
      sixth = sixth;
      laid = h.1;
      passes = checked-accepts l (take at bytes) h;
      terms_first = h.1.term_count_lem ∙ terms_five bytes at f;
      says = six_says bytes at f count sixth;
    },
  )

-- What the checks of all the bytes say, taken for five sections

module _ (bytes : List ℕ) where
  pub accepted_ends : (l : code.Layout) → CheckedAs (Ok l) bytes → SixRefused 2 (length bytes) bytes
  accepted_ends l h = let r = told_accepted bytes h.0 in six_refused bytes 2 (length bytes) (ended bytes r.0 r.1)

  pub refused_early : (k place : ℕ) → (k < 4) ⊎ (k ≡ 26) → FiveRefused k place bytes → SixRefused k place bytes
  refused_early k place l h =
      ⊎_elim (λ e. six_refused bytes k place (early bytes k place (λ q. ⊎_elim (λ u. omega arith) (λ u. omega arith) l) e))
      (λ r. absurd (⊎_elim (λ u. omega (arith, r.2.from_on)) (λ u. omega (arith, r.2.below)) l))
      (told_refused bytes k place h)

  pub refused_ends : (k place : ℕ) → (LayoutNumber k → ⊥) → FiveRefused k place bytes → SixRefused 2 (length bytes) bytes
  unfolding layout_of layout_by
  refused_ends k place other h =
      ⊎_elim
      (λ e. let numbered : Numbered (faulty k place) = rw e at (layout_numbered (sections (first_byte bytes)) 0 bytes (sections-excesses (first_byte bytes))) in
      absurd (other numbered))
      (λ r. six_refused bytes 2 (length bytes) (ended bytes r.0 r.1))
      (told_refused bytes k place h)

  pub follows-five : (k place : ℕ) → k ≡ 4 → FiveRefused k place bytes → layout_of bytes ≡ faulty 4 place
  follows-five k place q h = ⊎_elim (λ e. e ∙ ap (λ (j : ℕ). faulty j place) q) (λ r. absurd (omega (arith, r.2.from_on))) (told_refused bytes k place h)

  pub sixth-counted : (at : ℕ) → layout_of bytes ≡ faulty 4 at → at < length bytes
  sixth-counted at h = (five bytes at h).counted

  pub refused_sixth : (at k place : ℕ) → layout_of bytes ≡ faulty 4 at → ((n : ℕ) → layout (between_section n ∷ []) at (drop at bytes) ≡ faulty k place) → SixRefused k place bytes
  refused_sixth at k place h e = six_refused bytes k place (sixth_refused bytes at (five bytes at h) k place (e (first_byte bytes)))
