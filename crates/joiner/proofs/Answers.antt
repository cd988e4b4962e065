-- What the code answers, case by case. Assumes nothing.
use Prim.Native.Nat.{ℕ, ◌+◌, ◌-◌, ◌*◌, ◌≤◌, ◌<◌}
use native.Mathlib.Omega.{arith}
use mathlib.Core.Path.{◌≡◌, refl, sym, ap, ◌∙◌}
use mathlib.Core.Bool.{Bool, true, false, cond}
use mathlib.Core.List.{List, []}
use mathlib.Core.Option.{none, some, Option-elim}
use lib.ListN.{length, get_or, take, drop}
use lib.Dec.{eqb}
use borrow.Author.Tests.{le-leb, lt-leb, le-ltb, lt-ltb, eq-eqb, ne_eqb}
use Rattle.logic.specs.Search.{◌and◌, all}
use Rattle.logic.specs.Query.{Query, first_byte, decode}
use Rattle.logic.specs.Calls.{refused, accepts}
use Rattle.query.specs.LaysOut.{LaysOut, literal_in}
use Rattle.query_checks.specs.Answers.{CheckedAs}
use Rattle.query.specs.declared.Layout.{Layout}
use Rattle.query.proofs.Literals.{listed-length, equalities-listed, reachability-listed, fields-listed}
use Rattle.query_checks.proofs.Checks.{checked-accepts}
use Rattle.joining.specs.Pairs.{pairs_of, has_terms, is_pair_list}
use Rattle.joining.specs.Call.{query_refusal}
use Rattle.joining.specs.HandBack.{Handed, literals_in, start_in, place_in, is_among, hand_back_of, hand_back_call, part_of}
use Rattle.joining.specs.HandBack as hand
use Rattle.joining.proofs.Places.{literal-fits}
use Rattle.std.specs.Prelude.{Result, Ok, Err}
use Rattle.refusals.specs.declared.Refusal.{Refusal}
use Rattle.refusals.specs.declared.Fault.TheVariants as fault
use Rattle.refusals.specs.Numbers.{number_of, refusal_at}
use Rattle.joiner.specs.Promise.{handed, Inside, Passing, BothChecked}
use Rattle.joiner.specs.declared.JoinRefusal.{JoinRefusal}
use Rattle.joiner.specs.declared.JoinRefusal.TheVariants as refusal
use Rattle.joiner.specs.declared.HandBack.{HandBack}
use Rattle.joiner.specs.declared.HandBack.TheVariants as back

-- The pair list

and_first : {a : Bool} (b c : Bool) → a ≡ false → a and b and c ≡ false
unfolding ◌and◌
and_first b c e = rw e

and_second : (a : Bool) {b : Bool} (c : Bool) → b ≡ false → a and b and c ≡ false
unfolding ◌and◌
and_second true c e = rw e
and_second false c e = refl

module _ (n m : ℕ) (bytes : List ℕ) where
  pub list_empty : length bytes ≡ 0 → false ≡ is_pair_list n m bytes
  unfolding is_pair_list
  list_empty h = sym (and_second _ _ (ne_eqb (length bytes) (1 + 2 * first_byte bytes) (λ e. omega arith)))

  pub list_high : {k : ℕ} → k ≡ get_or bytes 0 0 → 60 < k → false ≡ is_pair_list n m bytes
  unfolding is_pair_list first_byte
  list_high e h = sym (and_first _ _ (lt-leb (get_or bytes 0 0) 60 (omega arith)))

  pub list_wrong : {k : ℕ} → k ≡ get_or bytes 0 0 → (length bytes ≡ 1 + 2 * k → ⊥) → false ≡ is_pair_list n m bytes
  unfolding is_pair_list first_byte
  list_wrong e h = sym (and_second _ _ (ne_eqb (length bytes) (1 + 2 * get_or bytes 0 0) (λ f. h (omega arith))))

  pub list_right : {k : ℕ} {b : Bool} → k ≡ get_or bytes 0 0 → k ≤ 60 → length bytes ≡ 1 + 2 * k → b ≡ all (has_terms n m) (pairs_of bytes) → b ≡ is_pair_list n m bytes
  unfolding is_pair_list first_byte ◌and◌
  list_right e low long h = rw (le-leb (get_or bytes 0 0) 60 (omega arith), eq-eqb (length bytes) (1 + 2 * get_or bytes 0 0) (omega arith)) h

-- Sections

module _ (l : Layout) (bytes : List ℕ) (laid : LaysOut l bytes) where
  pub equal_counted : l.equal_count ≡ length (decode bytes).equalities
  equal_counted = sym (ap length (equalities-listed l bytes laid) ∙ listed-length (literal_in bytes l.equal_at) l.equal_count)

  pub reach_counted : l.reach_count ≡ length (decode bytes).reachability
  reach_counted = sym (ap length (reachability-listed l bytes laid) ∙ listed-length (literal_in bytes l.reach_at) l.reach_count)

  pub field_counted : l.field_count ≡ length (decode bytes).fields
  field_counted = sym (ap length (fields-listed l bytes laid) ∙ listed-length (literal_in bytes l.field_at) l.field_count)

  module _ (s : ℕ) where
    pub count_second : s ≡ 2 → (l.equal_count ≡ length (literals_in (decode bytes) s)) × (l.equal_count ≤ 60)
    unfolding literals_in
    count_second e = rw (eq-eqb s 2 e) (equal_counted, laid.equal_within)

    pub count_third : (s ≡ 2 → ⊥) → s ≡ 3 → (l.reach_count ≡ length (literals_in (decode bytes) s)) × (l.reach_count ≤ 60)
    unfolding literals_in
    count_third a e = rw (ne_eqb s 2 a, eq-eqb s 3 e) (reach_counted, laid.reach_within)

    pub count_fourth : (s ≡ 2 → ⊥) → (s ≡ 3 → ⊥) → s ≡ 4 → (l.field_count ≡ length (literals_in (decode bytes) s)) × (l.field_count ≤ 60)
    unfolding literals_in
    count_fourth a b e = rw (ne_eqb s 2 a, ne_eqb s 3 b, eq-eqb s 4 e) (field_counted, laid.field_within)

    pub count_none : (s ≡ 2 → ⊥) → (s ≡ 3 → ⊥) → (s ≡ 4 → ⊥) → (0 ≡ length (literals_in (decode bytes) s)) × (0 ≤ 60)
    unfolding literals_in
    count_none a b c = rw (ne_eqb s 2 a, ne_eqb s 3 b, ne_eqb s 4 c) (refl, omega arith)

    pub start-second : s ≡ 2 → (l.terms + 2 ≡ start_in (decode bytes) s) × (l.terms + 2 ≤ 1000)
    unfolding start_in
    start-second e = rw (eq-eqb s 2 e) (omega (arith, laid.term_count_lem), omega (arith, laid.terms_within))

    pub start_third : (s ≡ 2 → ⊥) → s ≡ 3 → (l.terms + 3 * l.equal_count + 3 ≡ start_in (decode bytes) s) × (l.terms + 3 * l.equal_count + 3 ≤ 1000)
    unfolding start_in
    start_third a e = rw (ne_eqb s 2 a, eq-eqb s 3 e) (omega (arith, laid.term_count_lem, equal_counted), omega (arith, laid.terms_within, laid.equal_within))

    pub start_last : (s ≡ 2 → ⊥) → (s ≡ 3 → ⊥) → (l.terms + 3 * l.equal_count + 3 * l.reach_count + 4 ≡ start_in (decode bytes) s)
        × (l.terms + 3 * l.equal_count + 3 * l.reach_count + 4 ≤ 1000)
    unfolding start_in
    start_last a b =
        rw (ne_eqb s 2 a, ne_eqb s 3 b) (omega (arith, laid.term_count_lem, equal_counted, reach_counted), omega (arith, laid.terms_within, laid.equal_within, laid.reach_within))

pub place_there : (bytes : List ℕ) (s k : ℕ) {start : ℕ} → start ≡ start_in (decode bytes) s → start + 3 * (k - 1) ≡ place_in (decode bytes) s k
unfolding place_in
place_there bytes s k h = rw h

-- The hand-back

-- by its tests
module _ (a b : Query) (line : List ℕ) where
  abbrev s : ℕ
  s = get_or line 1 0

  abbrev k : ℕ
  k = get_or line 2 0

  of_tests : (x y z : Bool) → eqb (get_or line 0 0) 9 ≡ x → is_among 0 (length (literals_in a s)) k ≡ y →
      is_among (length (literals_in a s)) (length (literals_in b s)) k ≡ z →
      hand_back_of a b line ≡ cond x (cond y (hand.in_first (place_in a s k) 3)
      (cond z (hand.in_second (place_in b s (k - length (literals_in a s))) 3) (hand.refused 25 0))) (hand.refused 25 0)
  unfolding hand_back_of
  of_tests x y z e f g = rw (e, f, g)

among_inside : (i m k : ℕ) → i < k → k ≤ i + m → is_among i m k ≡ true
unfolding is_among ◌and◌
among_inside i m k l u = rw (lt-ltb i k l) (le-leb k (i + m) u)

among_low : (i m k : ℕ) → k ≤ i → is_among i m k ≡ false
unfolding is_among ◌and◌
among_low i m k u = rw (le-ltb i k u)

among_high : (i m k : ℕ) → i + m < k → is_among i m k ≡ false
unfolding is_among ◌and◌
among_high i m k l = rw (lt-ltb i k (omega arith)) (lt-leb k (i + m) l)

module _ (first second line : List ℕ) (ok₁ : accepts first ≡ true) (ok₂ : accepts second ≡ true) {nine s k : ℕ} (e₀ : nine ≡ get_or line 0 0) (e₁ : s ≡ get_or line 1 0) (e₂ : k ≡ get_or line 2 0) where
  abbrev a : Query
  a = decode first

  abbrev b : Query
  b = decode second

  abbrev Answers : Result HandBack JoinRefusal → Type 0
  Answers r = (handed r ≡ hand_back_of (decode first) (decode second) line) × Inside (length first) (length second) r

  -- the counts at the line's own section
  moved : (q : Query) {i : ℕ} → i ≡ length (literals_in q s) → i ≡ length (literals_in q (get_or line 1 0))
  moved q h = h ∙ ap (λ (t : ℕ). length (literals_in q t)) e₁

  pub back_other : (nine ≡ 9 → ⊥) → Answers (Err (refusal.Neither (refusal_at fault.ClashLine 0)))
  back_other h = (sym (of_tests (decode first) (decode second) line false _ _ (ne_eqb (get_or line 0 0) 9 (λ e. h (e₀ ∙ e))) refl refl), tt)

  pub back_zero : nine ≡ 9 → k ≡ 0 → Answers (Err (refusal.Neither (refusal_at fault.ClashLine 0)))
  back_zero h z = (
    sym (of_tests (decode first) (decode second) line true false false (eq-eqb (get_or line 0 0) 9 (sym e₀ ∙ h))
        (among_low 0 _ (get_or line 2 0) (omega arith)) (among_low _ _ (get_or line 2 0) (omega arith))),
    tt,
  )

  pub back_first : nine ≡ 9 → {i p : ℕ} → i ≡ length (literals_in (decode first) s) → (k ≡ 0 → ⊥) → k ≤ i → p ≡ place_in (decode first) s k → Answers (Ok (back.InFirst p 3))
  back_first h {i} {p} ei one low ep =
      let inside = moved (decode first) ei in
      let at_place : p ≡ place_in (decode first) (get_or line 1 0) (get_or line 2 0) = ep ∙ ap (λ (t : ℕ). place_in (decode first) t k) e₁ ∙ ap (place_in (decode first) (get_or line 1 0)) e₂ in (
        ap (λ (t : ℕ). hand.in_first t 3) at_place
            ∙ sym (of_tests (decode first) (decode second) line true true _ (eq-eqb (get_or line 0 0) 9 (sym e₀ ∙ h)) (among_inside 0 _ (get_or line 2 0) (positive one) (omega arith)) refl),
        omega (arith, ep, literal-fits first ok₁ s k (positive_own one) (omega (arith, low, ei))),
      )
    where
      positive_own : (k ≡ 0 → ⊥) → 1 ≤ k
      positive_own n = omega arith

      positive : (k ≡ 0 → ⊥) → 0 < get_or line 2 0
      positive n = omega (arith, positive_own n)

  pub back_second : nine ≡ 9 → {i m p : ℕ} → i ≡ length (literals_in (decode first) s) → m ≡ length (literals_in (decode second) s) → i < k →
      k ≤ i + m → p ≡ place_in (decode second) s (k - i) → Answers (Ok (back.InSecond p 3))
  back_second h {i} {m} {p} ei em low high ep =
      let first_count = moved (decode first) ei in
      let second_count = moved (decode second) em in
      let at_place : p ≡ place_in (decode second) (get_or line 1 0) (get_or line 2 0 - length (literals_in (decode first) (get_or line 1 0))) =
      ep ∙ ap (λ (t : ℕ). place_in (decode second) t (k - i)) e₁ ∙ ap (λ (t : ℕ). place_in (decode second) (get_or line 1 0) (t - i)) e₂
      ∙ ap (λ (t : ℕ). place_in (decode second) (get_or line 1 0) (get_or line 2 0 - t)) first_count in (
        ap (λ (t : ℕ). hand.in_second t 3) at_place
            ∙ sym (of_tests (decode first) (decode second) line true false true (eq-eqb (get_or line 0 0) 9 (sym e₀ ∙ h))
            (among_high 0 _ (get_or line 2 0) (omega arith)) (among_inside _ _ (get_or line 2 0) (omega arith) (omega arith))),
        omega (arith, ep, literal-fits second ok₂ s (k - i) (omega arith) (omega (arith, em))),
      )

  pub back_past : nine ≡ 9 → {i m : ℕ} → i ≡ length (literals_in (decode first) s) → m ≡ length (literals_in (decode second) s) → i < k → i + m < k → Answers (Err (refusal.Neither (refusal_at fault.ClashLine 0)))
  back_past h {i} {m} ei em low high =
      let first_count = moved (decode first) ei in
      let second_count = moved (decode second) em in (
        sym (of_tests (decode first) (decode second) line true false false (eq-eqb (get_or line 0 0) 9 (sym e₀ ∙ h))
            (among_high 0 _ (get_or line 2 0) (omega arith)) (among_high _ _ (get_or line 2 0) (omega arith))),
        tt,
      )

-- The checks of a query

pub refused_query : (bytes : List ℕ) (e : Refusal) → CheckedAs (Err e) bytes → query_refusal bytes ≡ some (refused (number_of e.fault) e.place)
unfolding query_refusal
refused_query bytes e h = h (record { order = []; query = bytes; room = 0 }) refl

pub passed_query : (bytes : List ℕ) {l : Layout} → CheckedAs (Ok l) bytes → query_refusal bytes ≡ none
unfolding query_refusal
passed_query bytes h = h.0 (record { order = []; query = bytes; room = 0 }) refl

pub passing : (l : Layout) (bytes : List ℕ) → CheckedAs (Ok l) bytes → Passing l bytes
passing l bytes h = record { laid = h.1; accepted = checked-accepts l bytes h }

module _ (first second line : List ℕ) where
  pub named-first : (e : Refusal) → CheckedAs (Err e) first → hand.first_refused (number_of e.fault) e.place ≡ hand_back_call first second line
  unfolding hand_back_call hand.of_first Option-elim
  named-first e h = rw (refused_query first e h)

  pub named-second : (e : Refusal) {l : Layout} → CheckedAs (Ok l) first → CheckedAs (Err e) second → hand.second_refused (number_of e.fault) e.place ≡ hand_back_call first second line
  unfolding hand_back_call hand.of_second Option-elim
  named-second e {l} g h = rw (passed_query first {l = l} g, refused_query second e h)

  pub named_found : {f s : Layout} {r : Handed} → CheckedAs (Ok f) first → CheckedAs (Ok s) second →
      r ≡ hand_back_of (decode first) (decode second) line → r ≡ hand_back_call first second line
  unfolding hand_back_call Option-elim
  named_found g h e = rw (passed_query first g, passed_query second h) e

  -- the refusal of either
  pub named_refused : (r : JoinRefusal) → BothChecked (Err r) first second →
      (handed (Err r) ≡ hand_back_call first second line) × Inside (length first) (length second) (Err r)
  named_refused (refusal.First e) h = (named-first e h, tt)
  named_refused (refusal.Second e) h = (named-second e {l = h.0} h.1 h.2, tt)
  named_refused (refusal.Neither e) h = absurd h

  -- the bytes of the part
  pub part_first : {at size : ℕ} → hand.in_first at size ≡ hand_back_call first second line → take (at + size - at) (drop at first) ≡ part_of (hand_back_call first second line) first second
  unfolding part_of
  part_first {at = at} {size = size} e = ap (λ (k : ℕ). take k (drop at first)) left ∙ ap (λ (x : Handed). part_of x first second) e
    where
      left : at + size - at ≡ size
      left = omega arith

  pub part_second : {at size : ℕ} → hand.in_second at size ≡ hand_back_call first second line → take (at + size - at) (drop at second) ≡ part_of (hand_back_call first second line) first second
  unfolding part_of
  part_second {at = at} {size = size} e = ap (λ (k : ℕ). take k (drop at second)) left ∙ ap (λ (x : Handed). part_of x first second) e
    where
      left : at + size - at ≡ size
      left = omega arith

  pub part_none : (r : JoinRefusal) → handed (Err r) ≡ hand_back_call first second line → [] ≡ part_of (hand_back_call first second line) first second
  unfolding part_of
  part_none (refusal.First e) h = ap (λ (x : Handed). part_of x first second) h
  part_none (refusal.Second e) h = ap (λ (x : Handed). part_of x first second) h
  part_none (refusal.Neither e) h = ap (λ (x : Handed). part_of x first second) h
