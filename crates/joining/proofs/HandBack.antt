-- What is handed back: the literal that the line names, or a refusal. Assumes nothing.
use Prim.Native.Nat.{ℕ, zero, suc, ◌+◌, ◌-◌, ◌≤◌, ◌<◌}
use native.Mathlib.Omega.{arith}
use mathlib.Core.Path.{◌≡◌, refl, sym, ap, ◌∙◌, subst}
use mathlib.Core.Logic.{◌⊎◌, inl, inr, ⊎_elim}
use mathlib.Core.Bool.{Bool, true, false, not, cond, true≢false}
use mathlib.Core.List.Memᴰ
use mathlib.Core.List.{List, [], ◌∷◌, ◌++◌, map, append-nil, Memᴰ}
use mathlib.Core.Option.{Option, none, some, Option-elim}
use lib.ListN.{length, get_or, take, drop, length-map}
use lib.Dec.{eqb, ltb, leb}
use borrow.Author.Tests.{ltb-true, ltb-false, leb-true, leb-false, eqb-true}
use Rattle.logic.specs.Search.{◌and◌, at, holds_of}
use Rattle.logic.specs.Query.{Literal, Query, term_count, literals, decode}
use Rattle.logic.specs.Facts.{Facts, line, is_clash, negated_at}
use Rattle.logic.specs.Calls.{query_checks, accepts}
use Rattle.logic.specs.Demands.{FirstStands}
use Rattle.theory.proofs.Basics.Search.{true-false, not-true, and_left, and_right, and-false_cases, or_cases, none-some, map-mem, at_left}
use Rattle.theory.proofs.Basics.Compare.{eq_cases, le_cases, eqb_self}
use Rattle.joining.specs.Pairs.{Pair}
use Rattle.joining.specs.Joined.{pair_literal, joined}
use Rattle.joining.specs.HandBack.{Handed, in_first, in_second, first_refused, second_refused, refused, literals_in, raised_in, place_in, is_among, hand_back_of, of_first, of_second, hand_back_call, part_of}
use Rattle.joining.specs.Claims.{BothAccepted, as_one, IsPart, section, number, NamesFirst, NamesSecond, NamedIn, OfPair, OfFirst, OfSecond, Unnamed, HandBackClaims, ClashHanded}
use Rattle.encoding.specs.WritingCall.{given}
use Rattle.encoding.proofs.Decoded.{at_own, at-within}
use Rattle.joining.proofs.Checks.{no_refusal, refusal_met, Checked, passes, stands, checked}
use Rattle.joining.proofs.Places.{literal-stands, literal-fits}

-- Places of a list, counted from 1

module _ {A : Type 0} where
  at_right : (xs ys : List A) (k : ℕ) → at (xs ++ ys) (length xs + suc k) ≡ at ys (suc k)
  unfolding at
  at_right [] ys k = ap (at ys) (none_before)
    where
      none_before : 0 + suc k ≡ suc k
      none_before = omega arith
  at_right (x ∷ xs) ys k = ap (at (x ∷ (xs ++ ys))) (one_before) ∙ behind ∙ at_right xs ys k
    where
      one_before : suc (length xs) + suc k ≡ suc (suc (length xs + k))
      one_before = omega arith

      same : suc (length xs + k) ≡ length xs + suc k
      same = omega arith

      behind : at (x ∷ (xs ++ ys)) (suc (suc (length xs + k))) ≡ at (xs ++ ys) (length xs + suc k)
      behind = ap (at (xs ++ ys)) same

at_map : {A B : Type 0} (f : A → B) (xs : List A) (k : ℕ) (x : A) → at xs k ≡ some x → at (map f xs) k ≡ some (f x)
unfolding at
at_map f [] zero x e = absurd (none-some e)
at_map f [] (suc k) x e = absurd (none-some e)
at_map f (y ∷ xs) zero x e = absurd (none-some e)
at_map f (y ∷ xs) (suc zero) x e = cc
at_map f (y ∷ xs) (suc (suc k)) x e = at_map f xs (suc k) x e

-- The literals of a section of the joined query: the first's, the second's raised, and in section 2 the pairs'

abbrev OfPairs : ℕ → List Pair → Literal → Type 0
OfPairs n ps l = (p : Pair) × Memᴰ p ps × (l ≡ pair_literal n p)

record Section (a b : Query) (ps : List Pair) (s : ℕ) : Type 0 where
  rest : List Literal
  are : literals_in (joined a b ps) s ≡ literals_in a s ++ (map (raised_in (term_count a) s) (literals_in b s) ++ rest)
  pairs : (l : Literal) → Memᴰ l rest → OfPairs (term_count a) ps l

module _ (a b : Query) (ps : List Pair) where
  second : Section a b ps 2
  unfolding literals_in joined raised_in
  second = record { rest = map (pair_literal (term_count a)) ps; are = refl; pairs = λ l m. map-mem (pair_literal (term_count a)) l ps m }

  third : Section a b ps 3
  unfolding literals_in joined raised_in
  third = record { rest = []; are = ap (λ (xs : List Literal). a.reachability ++ xs) (sym (append-nil _)); pairs = λ l m. absurd (Memᴰ.not-nil m) }

  fourth : Section a b ps 4
  unfolding literals_in joined raised_in
  fourth = record { rest = []; are = ap (λ (xs : List Literal). a.fields ++ xs) (sym (append-nil _)); pairs = λ l m. absurd (Memᴰ.not-nil m) }

  other : (s : ℕ) → eqb s 2 ≡ false → eqb s 3 ≡ false → eqb s 4 ≡ false → Section a b ps s
  unfolding literals_in
  other s i j k = record { rest = []; are = rw (i, j, k); pairs = λ x m. absurd (Memᴰ.not-nil m) }

  sectioned : (s : ℕ) → Section a b ps s
  sectioned s =
      ⊎_elim (λ e. subst (Section a b ps) (sym e) second)
      (λ i.
      ⊎_elim (λ e. subst (Section a b ps) (sym e) third)
      (λ j. ⊎_elim (λ e. subst (Section a b ps) (sym e) fourth) (λ k. other s i.1 j.1 k.1) (eq_cases s 4))
      (eq_cases s 3))
      (eq_cases s 2)

  -- the literal at a place of it
  named-first : (s k : ℕ) (l : Literal) → at (literals_in a s) k ≡ some l → at (literals_in (joined a b ps) s) k ≡ some l
  named-first s k l e = ap (λ (ls : List Literal). at ls k) (sectioned s).are ∙ at_left (literals_in a s) _ k l e

  named-second : (s k : ℕ) (l : Literal) → length (literals_in a s) < k → at (literals_in b s) (k - length (literals_in a s)) ≡ some l →
      at (literals_in (joined a b ps) s) k ≡ some (raised_in (term_count a) s l)
  named-second s k l h e =
      ap (λ (ls : List Literal). at ls k) (sectioned s).are ∙ ap (at (literals_in a s ++ (map (raised_in (term_count a) s) (literals_in b s) ++ (sectioned s).rest))) place
      ∙ at_right (literals_in a s) (map (raised_in (term_count a) s) (literals_in b s) ++ (sectioned s).rest) (k - length (literals_in a s) - 1)
      ∙ at_left (map (raised_in (term_count a) s) (literals_in b s)) (sectioned s).rest (suc (k - length (literals_in a s) - 1)) (raised_in (term_count a) s l)
      (ap (at (map (raised_in (term_count a) s) (literals_in b s))) again ∙ at_map (raised_in (term_count a) s) (literals_in b s) (k - length (literals_in a s)) l e)
    where
      place : k ≡ length (literals_in a s) + suc (k - length (literals_in a s) - 1)
      place = omega arith

      again : suc (k - length (literals_in a s) - 1) ≡ k - length (literals_in a s)
      again = omega arith

  named-pair : (s k : ℕ) (l : Literal) → length (literals_in a s) + length (literals_in b s) < k → at (literals_in (joined a b ps) s) k ≡ some l → OfPairs (term_count a) ps l
  named-pair s k l h e =
      (sectioned s).pairs l
      (at_own (sectioned s).rest (suc (k - length (literals_in a s) - length (literals_in b s) - 1)) l
      (sym (at_right (map (raised_in (term_count a) s) (literals_in b s)) (sectioned s).rest (k - length (literals_in a s) - length (literals_in b s) - 1))
      ∙ ap (at (map (raised_in (term_count a) s) (literals_in b s) ++ (sectioned s).rest)) (inner)
      ∙ sym (at_right (literals_in a s) (map (raised_in (term_count a) s) (literals_in b s) ++ (sectioned s).rest) (k - length (literals_in a s) - 1))
      ∙ ap (at (literals_in a s ++ (map (raised_in (term_count a) s) (literals_in b s) ++ (sectioned s).rest))) (outer)
      ∙ ap (λ (ls : List Literal). at ls k) (sym (sectioned s).are) ∙ e))
    where
      inner : length (map (raised_in (term_count a) s) (literals_in b s)) + suc (k - length (literals_in a s) - length (literals_in b s) - 1) ≡ suc (k - length (literals_in a s) - 1)
      inner = omega (arith, length-map (literals_in b s) (raised_in (term_count a) s))

      outer : length (literals_in a s) + suc (k - length (literals_in a s) - 1) ≡ k
      outer = omega arith

-- The hand-back

among_within : (i m k : ℕ) → is_among i m k ≡ true → (i < k) × (k ≤ i + m)
unfolding is_among
among_within i m k h = (ltb-true i k (and_left _ _ h), leb-true k (i + m) (and_right _ _ h))

among_outside : (i m k : ℕ) → is_among i m k ≡ false → (k ≤ i) ⊎ (i + m < k)
unfolding is_among
among_outside i m k h = ⊎_elim (λ e. inl (ltb-false i k e)) (λ e. inr (leb-false k (i + m) e)) (and-false_cases (ltb i k) (leb k (i + m)) h)

-- a refused hand-back is an empty part
part_cases : (h : Handed) → IsPart h ⊎ (IsPart h → ⊥)
part_cases (in_first at_byte size) = inl tt
part_cases (in_second at_byte size) = inl tt
part_cases (first_refused r place) = inr (λ x. x)
part_cases (second_refused r place) = inr (λ x. x)
part_cases (refused r place) = inr (λ x. x)

empty : (first second : List ℕ) (h : Handed) → (IsPart h → ⊥) → part_of h first second ≡ []
unfolding part_of
empty first second (in_first at_byte size) n = absurd (n tt)
empty first second (in_second at_byte size) n = absurd (n tt)
empty first second (first_refused r place) n = refl
empty first second (second_refused r place) n = refl
empty first second (refused r place) n = refl

-- a query that passes its checks meets none of them
met_none : (bytes : List ℕ) (k place : ℕ) → accepts bytes ≡ true → FirstStands query_checks (given bytes 0) k place → ⊥
met_none bytes k place h f = none-some (sym (no_refusal bytes h) ∙ refusal_met bytes k place f)

module _ (first second bytes : List ℕ) where
  abbrev a : Query
  a = decode first

  abbrev b : Query
  b = decode second

  abbrev s : ℕ
  s = section first second bytes

  abbrev k : ℕ
  k = number first second bytes

  -- how many literals of the section either query has
  abbrev firsts : ℕ
  firsts = length (literals_in a s)

  abbrev seconds : ℕ
  seconds = length (literals_in b s)

  -- what each answer means
  record FirstFound (at_byte size : ℕ) : Type 0 where
    both : BothAccepted first second
    begins : get_or bytes 0 0 ≡ 9
    literal : Literal
    own : NamesFirst first second bytes literal
    within : (size ≡ 3) × (at_byte + size ≤ length first)
    reads : literals (take size (drop at_byte first)) ≡ literal ∷ []

  record SecondFound (at_byte size : ℕ) : Type 0 where
    both : BothAccepted first second
    begins : get_or bytes 0 0 ≡ 9
    literal : Literal
    own : NamesSecond first second bytes literal
    behind : firsts < k
    within : (size ≡ 3) × (at_byte + size ≤ length second)
    reads : literals (take size (drop at_byte second)) ≡ literal ∷ []

  abbrev Means : Handed → Type 0
  Means (in_first at_byte size) = FirstFound at_byte size
  Means (in_second at_byte size) = SecondFound at_byte size
  Means (first_refused r place) = FirstStands query_checks (given first 0) r place
  Means (second_refused r place) = (accepts first ≡ true) × FirstStands query_checks (given second 0) r place
  Means (refused r place) = (r ≡ 25) × (place ≡ 0) × BothAccepted first second × Unnamed first second bytes

  module _ (both : BothAccepted first second) where
    found_first : get_or bytes 0 0 ≡ 9 → is_among 0 firsts k ≡ true → FirstFound (place_in a s k) 3
    found_first begins h =
        let r = among_within 0 firsts k h in
        let one : 1 ≤ k = omega (arith, r.0) in
        let low : k ≤ firsts = omega (arith, r.1) in
        let (l, own, reads) = literal-stands first both.0 s k one low in
        record { both = both; begins = begins; literal = l; own = own; within = (refl, literal-fits first both.0 s k one low); reads = reads }

    found_second : get_or bytes 0 0 ≡ 9 → is_among firsts seconds k ≡ true → SecondFound (place_in b s (k - firsts)) 3
    found_second begins h =
        let r = among_within firsts seconds k h in
        let j = k - firsts in
        let one : 1 ≤ j = omega (arith, r.0) in
        let low : j ≤ seconds = omega (arith, r.1) in
        let (l, own, reads) = literal-stands second both.1 s j one low in
        record {
          both = both;
          begins = begins;
          literal = l;
          own = (j, omega (arith, r.0), own);
          behind = r.0;
          within = (refl, literal-fits second both.1 s j one low);
          reads = reads;
        }

    unnamed : is_among 0 firsts k ≡ false → is_among firsts seconds k ≡ false → (l : Literal) → NamesFirst first second bytes l ⊎ NamesSecond first second bytes l → ⊥
    unnamed x y l =
        let u = among_outside 0 firsts k x in
        let v = among_outside firsts seconds k y in
        ⊎_elim
        (λ e. let w = at-within (literals_in a s) k l e in ⊎_elim (λ low. omega (arith, w.0)) (λ high. omega (arith, w.1)) u)
        (λ e. let w = at-within (literals_in b s) e.0 l e.2 in ⊎_elim (λ low. omega (arith, w.0, e.1)) (λ high. omega (arith, w.1, e.1)) v)

    -- by the three tests
    told : Bool → Bool → Bool → Handed
    told x y z = cond x (cond y (in_first (place_in a s k) 3) (cond z (in_second (place_in b s (k - firsts)) 3) (refused 25 0))) (refused 25 0)

    by_tests : (x y z : Bool) → eqb (get_or bytes 0 0) 9 ≡ x → is_among 0 firsts k ≡ y → is_among firsts seconds k ≡ z → Means (told x y z)
    unfolding told
    by_tests false y z e f g = (refl, refl, both, inl (λ begins. true-false (ap (λ (i : ℕ). eqb i 9) begins ∙ eqb_self 9) e))
    by_tests true true z e f g = found_first (eqb-true (get_or bytes 0 0) 9 e) f
    by_tests true false true e f g = found_second (eqb-true (get_or bytes 0 0) 9 e) g
    by_tests true false false e f g = (refl, refl, both, inr (unnamed f g))

    accepted_means : Means (hand_back_call first second bytes)
    unfolding hand_back_call Option-elim hand_back_of told
    accepted_means = rw (no_refusal first both.0, no_refusal second both.1) (by_tests _ _ _ refl refl refl)

  first_if : (r place : ℕ) → FirstStands query_checks (given first 0) r place → hand_back_call first second bytes ≡ first_refused r place
  unfolding hand_back_call Option-elim of_first
  first_if r place f = rw (refusal_met first r place f)

  second_if : (r place : ℕ) → accepts first ≡ true → FirstStands query_checks (given second 0) r place → hand_back_call first second bytes ≡ second_refused r place
  unfolding hand_back_call Option-elim of_second
  second_if r place h f = rw (no_refusal first h, refusal_met second r place f)

  means : Means (hand_back_call first second bytes)
  means = go (checked first) (checked second)
    where
      go : Checked first → Checked second → Means (hand_back_call first second bytes)
      go (stands r place f) c = subst Means (sym (first_if r place f)) f
      go (passes h) (stands r place f) = subst Means (sym (second_if r place h f)) (h, f)
      go (passes h) (passes g) = accepted_means (h, g)

  -- a line that names nothing is refused 25
  unnamed_in : (h : Handed) → Means h → BothAccepted first second → Unnamed first second bytes → h ≡ refused 25 0
  unnamed_in (in_first at_byte size) m both u = absurd (⊎_elim (λ n. n m.begins) (λ n. n m.literal (inl m.own)) u)
  unnamed_in (in_second at_byte size) m both u = absurd (⊎_elim (λ n. n m.begins) (λ n. n m.literal (inr m.own)) u)
  unnamed_in (first_refused r place) m both u = absurd (met_none first r place both.0 m)
  unnamed_in (second_refused r place) m both u = absurd (met_none second r place both.1 m.1)
  unnamed_in (refused r place) m both u = ap (λ (i : ℕ). refused i place) m.0 ∙ ap (refused 25) m.1

  -- and what it names in the joined query is of a pair
  pair_in_lem : (ps : List Pair) (l : Literal) (h : Handed) → Means h → BothAccepted first second → (IsPart h → ⊥) → get_or bytes 0 0 ≡ 9 → NamedIn first second bytes ps l → OfPair first second bytes ps l
  pair_in_lem ps l (in_first at_byte size) m both n begins e = absurd (n tt)
  pair_in_lem ps l (in_second at_byte size) m both n begins e = absurd (n tt)
  pair_in_lem ps l (first_refused r place) m both n begins e = absurd (met_none first r place both.0 m)
  pair_in_lem ps l (second_refused r place) m both n begins e = absurd (met_none second r place both.1 m.1)
  pair_in_lem ps l (refused r place) m both n begins e = named-pair a b ps s k l high e
    where
      none : (x : Literal) → NamesFirst first second bytes x ⊎ NamesSecond first second bytes x → ⊥
      none = ⊎_elim (λ other. absurd (other begins)) (λ no. no) m.3

      above : firsts < k
      above =
          ⊎_elim
          (λ low. let r = literal-stands first both.0 s k (at-within _ k l e).0 low in absurd (none r.0 (inl r.1)))
          (λ high. high)
          (le_cases k firsts)

      high : firsts + seconds < k
      high =
          let j = k - firsts in
          ⊎_elim
          (λ low. let r = literal-stands second both.1 s j (omega (arith, above)) (omega (arith, above)) in absurd (none r.0 (inr (j, omega (arith, above), r.1))))
          (λ high. high)
          (le_cases k (firsts + seconds))

  of_first_lem : (at_byte size : ℕ) → hand_back_call first second bytes ≡ in_first at_byte size → OfFirst first second bytes at_byte size
  unfolding part_of
  of_first_lem at_byte size e =
      let m = subst Means e means in
      let part = ap (λ (h : Handed). part_of h first second) e in
      record {
        both = m.both;
        begins = m.begins;
        literal = m.literal;
        own = m.own;
        named = λ ps. named-first a b ps s k m.literal m.own;
        within = m.within;
        part = part;
        reads = ap literals part ∙ m.reads;
      }

  of_second_lem : (at_byte size : ℕ) → hand_back_call first second bytes ≡ in_second at_byte size → OfSecond first second bytes at_byte size
  unfolding part_of
  of_second_lem at_byte size e =
      let m = subst Means e means in
      let part = ap (λ (h : Handed). part_of h first second) e in
      let (j, there, own) = m.own in
      record {
        both = m.both;
        begins = m.begins;
        literal = m.literal;
        own = m.own;
        named = λ ps. named-second a b ps s k m.literal m.behind (ap (at (literals_in b s)) (omega (arith, there)) ∙ own);
        within = m.within;
        part = part;
        reads = ap literals part ∙ m.reads;
      }

  pub hand_back : HandBackClaims first second bytes
  hand_back =
      record {
        first_exactly = λ r place. (λ e. subst Means e means, first_if r place);
        second_exactly = λ r place. (λ e. subst Means e means, λ h. second_if r place h.0 h.1);
        unnamed_exactly = λ r place. (
          λ e. subst Means e means,
          λ h. unnamed_in (hand_back_call first second bytes) means h.2 h.3 ∙ ap (λ (i : ℕ). refused i 0) (sym h.0) ∙ ap (refused r) (sym h.1),
        );
        of_first_lem = of_first_lem;
        of_second_lem = of_second_lem;
        refused_empty = empty first second (hand_back_call first second bytes);
        pair_named = λ ps l. pair_in_lem ps l (hand_back_call first second bytes) means;
      }

-- A clash line names a negated literal of its section.

negated : (ls : List Literal) (k : ℕ) (p : Literal → Bool) → negated_at ls k p ≡ true → (l : Literal) × (at ls k ≡ some l) × (l.plain ≡ false)
unfolding negated_at holds_of
negated ls k p h = go (at ls k) refl h
  where
    go : (o : Option Literal) → at ls k ≡ o → holds_of o (λ l. not l.plain and p l) ≡ true → (l : Literal) × (at ls k ≡ some l) × (l.plain ≡ false)
    go none e x = absurd (true≢false (sym x))
    go (some l) e x = (l, e, not-true (and_left _ _ x))

clash_names : (q : Query) (facts : Facts) (nine s k j : ℕ) → is_clash q facts (line nine s k j) ≡ true → (nine ≡ 9) × ((l : Literal) × (at (literals_in q s) k ≡ some l) × (l.plain ≡ false))
unfolding is_clash literals_in
clash_names q facts nine s k j h = (
  eqb-true nine 9 (and_left _ _ h),
  ⊎_elim
      (λ z.
      ⊎_elim
      (λ w. there 2 (and_left _ _ (and_left _ _ w)) (negated q.equalities k _ (and_right _ _ w)))
      (λ w. there 3 (and_left _ _ (and_left _ _ w)) (negated q.reachability k _ (and_right _ _ w)))
      (or_cases _ _ z))
      (λ z. there 4 (and_left _ _ z) (negated q.fields k _ (and_right _ _ z)))
      (or_cases _ _ (and_right _ _ h)),
)
  where
    there : (t : ℕ) → eqb s t ≡ true → ((l : Literal) × (at (literals_in q t) k ≡ some l) × (l.plain ≡ false)) → (l : Literal) × (at (literals_in q s) k ≡ some l) × (l.plain ≡ false)
    there t e r = subst (λ (u : ℕ). (l : Literal) × (at (literals_in q u) k ≡ some l) × (l.plain ≡ false)) (sym (eqb-true s t e)) r

pub clash_handed : (first second : List ℕ) → BothAccepted first second → ClashHanded first second
unfolding pair_literal
clash_handed first second both ps facts nine s k j h =
    let (begins, named) = clash_names (as_one first second ps) facts nine s k j h in
    let (l, e, f) = named in
    let bytes : List ℕ = nine ∷ s ∷ k ∷ j ∷ [] in
    ⊎_elim
    (λ part. part)
    (λ n. let (p, own, q) = (hand_back first second bytes).pair_named ps l both n begins e in absurd (true-false (ap (λ (x : Literal). x.plain) q) f))
    (part_cases (hand_back_call first second bytes))
