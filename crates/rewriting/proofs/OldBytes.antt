-- What old query bytes say that pass checks 2 to 8 as they stood. Assumes nothing.
use Prim.Native.Nat.{ℕ, zero, suc, ◌*◌}
use native.Mathlib.Omega.{arith}
use mathlib.Core.Path.{◌≡◌, refl, sym, ap, subst}
use mathlib.Core.Logic.{⊎_elim}
use mathlib.Core.Bool.{true}
use mathlib.Core.List.Memᴰ
use mathlib.Core.List.{List, [], ◌∷◌, Memᴰ}
use mathlib.Core.Option.{none, some}
use lib.ListN.{length}
use Rattle.logic.specs.Search.{from, at, flat_map}
use Rattle.logic.specs.Query.{Literal, Role, Section, sign_role, number_role, four_sections, boolean_section, five_sections, Layout, parts, first_byte, layout_by, section, query_of, term_count}
use Rattle.logic.specs.Calls.{Check, form_checks}
use Rattle.theory.proofs.Basics.Search.{not-true, is_some-false}
use Rattle.theory.proofs.Query.Tied.{Accepted, ToEight}
use Rattle.theory.proofs.Query.Bytes.{Allows, Allowed, Part, three_number, literals-count}
use Rattle.theory.proofs.Query.AcceptedBytes.{Passes, form-passes, LaidOut, booleans, five_laid, five_accepted, number_allows}
use Rattle.theory.proofs.Calls.CallLaws.{refusal_of-none}
use Rattle.encoding.specs.WritingCall.{given, accepts_in}
use Rattle.encoding.proofs.Encoded.{Limits, AboutOne, OneLinked}
use Rattle.encoding.proofs.Decoded.{layout_linked}
use Rattle.rewriting.specs.OldQuery.{old_sections, accepts_old, flags, boolean_part, decode_old}

-- the literals of a section of two bytes an entry
pub flags-count : (c : ℕ) (bytes : List ℕ) → length bytes ≡ c * 2 → length (flags bytes) ≡ c
unfolding flags
flags-count zero [] e = refl
flags-count (suc c) [] e = absurd (omega arith)
flags-count c (s ∷ []) e = absurd (omega arith)
flags-count zero (s ∷ a ∷ rest) e = absurd (omega arith)
flags-count (suc c) (s ∷ a ∷ rest) e = ap suc (flags-count c rest (omega arith))

flags-allowed : (sign left : Role) (c i : ℕ) (bytes : List ℕ) → length bytes ≡ c * 2 → Allowed (flat_map (λ j. sign ∷ left ∷ []) (from c i)) bytes →
    (l : Literal) → Memᴰ l (flags bytes) → Allows left l.left
unfolding flat_map from flags
flags-allowed sign left zero i [] e h l m = absurd (Memᴰ.not-nil m)
flags-allowed sign left zero i (s ∷ bytes) e h l m = absurd (omega arith)
flags-allowed sign left (suc c) i [] e h l m = absurd (Memᴰ.not-nil m)
flags-allowed sign left (suc c) i (s ∷ []) e h l m = absurd (Memᴰ.not-nil m)
flags-allowed sign left (suc c) i (s ∷ a ∷ rest) e h l m =
    ⊎_elim (λ q. rw q h.1.0) (flags-allowed sign left c (suc i) rest (omega arith) h.1.1 l) (Memᴰ.cases_cons m)

flags-link : (bytes : List ℕ) → AboutOne (flags bytes)
unfolding flags
flags-link [] l m = absurd (Memᴰ.not-nil m)
flags-link (s ∷ []) l m = absurd (Memᴰ.not-nil m)
flags-link (s ∷ a ∷ rest) l m = ⊎_elim (λ e. ap (λ (k : Literal). k.link) e) (flags-link rest l) (Memᴰ.cases_cons m)

-- old query bytes are in the form of 01
pub base_linked : (bytes : List ℕ) → OneLinked (decode_old bytes).base
unfolding decode_old
base_linked bytes = layout_linked (layout_by old_sections bytes)

pub booleans_linked : (bytes : List ℕ) → AboutOne (decode_old bytes).booleans
unfolding decode_old
booleans_linked bytes = flags-link (boolean_part (layout_by old_sections bytes))

module _ (bytes : List ℕ) (h : accepts_old bytes ≡ true) where
  pub old_clear : (c : Check) → Memᴰ c (form_checks old_sections) → c.place (given bytes 0) ≡ none
  unfolding accepts_in
  old_clear = refusal_of-none (form_checks old_sections) (given bytes 0) (is_some-false _ (not-true h))

  pub old_passes : Passes (five_sections 60 3) bytes
  unfolding old_sections
  old_passes = form-passes (five_sections 60 3) (given bytes 0) old_clear

  pub old_laid : LaidOut (booleans 60 3 three_number) bytes
  old_laid = five_laid 60 3 three_number bytes old_passes

  abbrev pub old_parts : List (List ℕ)
  old_parts = old_laid.ps

  pub layout_is : layout_by old_sections bytes ≡ parts old_parts
  unfolding old_sections five_sections
  layout_is = old_laid.laid

  -- the query without its booleans
  pub base_is : (decode_old bytes).base ≡ query_of (parts old_parts)
  unfolding decode_old
  base_is = ap query_of layout_is

  pub booleans_are : (decode_old bytes).booleans ≡ flags (section old_parts 4)
  unfolding decode_old boolean_part
  booleans_are = ap (λ (l : Layout). flags (boolean_part l)) layout_is

  pub base_accepted : Accepted (decode_old bytes).base
  unfolding decode_old old_sections
  base_accepted = five_accepted 60 3 three_number bytes old_passes

  -- section i, by its place among the five
  pub section-part : (i : ℕ) (s : Section) → at (five_sections 60 3 (first_byte bytes)) (suc i) ≡ some s → Part s (section old_parts i)
  unfolding five_sections
  section-part = old_laid.part

  parts_limited : Limits (query_of (parts old_parts))
  unfolding query_of term_count five_sections four_sections at
  parts_limited =
      record {
        terms = let p = section-part 0 _ refl in omega (arith, p.within, p.sized);
        equalities = let p = section-part 1 _ refl in omega (arith, p.within, literals-count p.count (section old_parts 1) p.sized);
        reachability = let p = section-part 2 _ refl in omega (arith, p.within, literals-count p.count (section old_parts 2) p.sized);
        fields = let p = section-part 3 _ refl in omega (arith, p.within, literals-count p.count (section old_parts 3) p.sized);
      }

  pub base_limits : Limits (decode_old bytes).base
  base_limits = subst Limits (sym base_is) parts_limited

  -- "Booleans, 0 to 60: sign, number 1 to 8."
  pub boolean_part_lem : Part (boolean_section 60 3) (section old_parts 4)
  unfolding five_sections four_sections at
  boolean_part_lem = section-part 4 _ refl

  pub boolean_number : (l : Literal) → Memᴰ l (decode_old bytes).booleans → ToEight l.left
  unfolding boolean_section
  boolean_number l m =
      let p = boolean_part_lem in
      number_allows l.left (flags-allowed sign_role number_role p.count 1 (section old_parts 4) p.sized p.allowed l (subst (Memᴰ l) booleans_are m))
