-- The reader of a text of lines, character by character. Assumes nothing.
use Prim.Native.Nat.{ℕ, ◌+◌, ◌-◌, ◌*◌, ◌≤◌, ◌<◌}
use native.Mathlib.Omega.{arith}
use native.Mathlib.Numerals.{add-one}
use mathlib.Core.Path.{◌≡◌, refl, sym, ap, subst, ◌∙◌}
use mathlib.Core.Bool.{Bool, true, false, cond, not, false≢true}
use mathlib.Core.List.{List, [], ◌∷◌, ◌++◌, append_assoc, append-nil}
use mathlib.Core.Option.{Option, none, some, Option-elim}
use Rattle.std.specs.Prelude.{◌&&◌}
use Rattle.std.specs.Cmp.Lexicographic.{pointwise}
use Rattle.std.specs.List.{filter}
use Rattle.std.proofs.lemmas.Bool.Decides.{nat_tests}
use lib.ListN.{length, get_or, take, drop, drop_of_length-le}
use lib.Seq.{drop-cons}
use lib.Dec.{eqb, leb}
use borrow.Author.Tests.{lt-ltb, le-ltb, lt-leb, le-leb, leb-true, ne_eqb, eq-eqb}
use Rattle.logic.specs.Search.{◌and◌, keep}
use Rattle.theory.proofs.Basics.Search.{and_left, and_right}
use Rattle.text.specs.Text.{Writes, is_digit}
use Rattle.text.proofs.Writing.{writes_none, writes_then}
use Rattle.decimal_lines.specs.DecimalLines.{begins, ends_number, next_place, is_between, prepend, numbers_from, newline_in, newlines}
use Rattle.decimal_lines.specs.Puts.{Puts}

-- characters

pub digit_low : (c : ℕ) → c < 48 → false ≡ is_digit c
unfolding is_digit ◌and◌
digit_low c h = rw (lt-leb 48 c h) refl

pub digit_test : (c : ℕ) → 48 ≤ c → leb c 57 ≡ is_digit c
unfolding is_digit ◌and◌
digit_test c h = rw (le-leb 48 c h) refl

pub digit_range : (c : ℕ) → is_digit c ≡ true → (48 ≤ c) × (c ≤ 57)
unfolding is_digit
digit_range c h = (leb-true 48 c (and_left _ _ h), leb-true c 57 (and_right _ _ h))

pub ends-not : (place c : ℕ) {b : Bool} → b ≡ false → false ≡ ends_number place b c
unfolding ends_number ◌and◌
ends-not place c e = rw e refl

pub ends_blank : (place c : ℕ) {b : Bool} → b ≡ true → place < 3 → eqb c 32 ≡ ends_number place b c
unfolding ends_number ◌and◌
ends_blank place c e h = rw (e, lt-ltb place 3 h) refl

pub ends_line : (place c : ℕ) {b : Bool} → b ≡ true → 3 ≤ place → eqb c 10 ≡ ends_number place b c
unfolding ends_number ◌and◌
ends_line place c e h = rw (e, le-ltb place 3 h) refl

pub place_on : (place : ℕ) → place < 3 → place + 1 ≡ next_place place
unfolding next_place
place_on place h = rw (lt-ltb place 3 h) refl

pub place_back : (place : ℕ) → 3 ≤ place → 0 ≡ next_place place
unfolding next_place
place_back place h = rw (le-ltb place 3 h) refl

pub between_not : (place : ℕ) {b : Bool} → b ≡ true → false ≡ is_between place b
unfolding is_between ◌and◌
between_not place e = rw e refl

pub between_place : (place : ℕ) {b : Bool} → b ≡ false → eqb place 0 ≡ is_between place b
unfolding is_between ◌and◌
between_place place e = rw e refl

-- a test that was turned round
pub not_left : (b : Bool) → not b ≡ false → b ≡ true
not_left true h = refl
not_left false h = absurd (false≢true (sym h))

pub not_taken : (b : Bool) → not b ≡ true → b ≡ false
not_taken true h = absurd (false≢true h)
not_taken false h = refl

-- one character

module _ (text : List ℕ) (i place value : ℕ) (begun : Bool) where
  abbrev here : Option (List ℕ)
  here = numbers_from place value begun (drop i text)

  module _ (inside : i < length text) where
    abbrev c : ℕ
    c = get_or text i 0

    first : here ≡ numbers_from place value begun (c ∷ drop (i + 1) text)
    first = ap (numbers_from place value begun) (drop-cons text i 0 inside ∙ ap (λ (k : ℕ). c ∷ drop k text) (sym (add-one i)))

    pub reads_digit : is_digit c ≡ true → 10 * value + (c - 48) ≤ 255 → here ≡ numbers_from place (10 * value + (c - 48)) true (drop (i + 1) text)
    unfolding numbers_from
    reads_digit d l = first ∙ rw (d, le-ltb 255 (10 * value + (c - 48)) l) refl

    pub reads_big : is_digit c ≡ true → 255 < 10 * value + (c - 48) → here ≡ none
    unfolding numbers_from
    reads_big d l = first ∙ rw (d, lt-ltb 255 (10 * value + (c - 48)) l) refl

    pub reads_other : is_digit c ≡ false → ends_number place begun c ≡ false → here ≡ none
    unfolding numbers_from
    reads_other d e = first ∙ rw (d, e) refl

    pub reads_end : is_digit c ≡ false → ends_number place begun c ≡ true → here ≡ prepend (value ∷ []) (numbers_from (next_place place) 0 false (drop (i + 1) text))
    unfolding numbers_from
    reads_end d e = first ∙ rw (d, e) refl

  reads_last : length text ≤ i → here ≡ keep (is_between place begun) []
  unfolding numbers_from
  reads_last h = ap (numbers_from place value begun) (drop_of_length-le text {i = i} h)

-- numbers in front of numbers
prepend-none : (o : Option (List ℕ)) → prepend [] o ≡ o
unfolding prepend Option-elim
prepend-none none = refl
prepend-none (some ns) = refl

pub prepend_more : (ns ms : List ℕ) (o : Option (List ℕ)) → prepend ns (prepend ms o) ≡ prepend (ns ++ ms) o
unfolding prepend Option-elim
prepend_more ns ms none = refl
prepend_more ns ms (some ks) = ap some (sym (append_assoc ns ms ks))

-- What the loop has read: the numbers that are written, and what is left.
pub record Scanned (before : List ℕ) (at : ℕ) (text after : List ℕ) (to place value : ℕ) (begun : Bool) (i : ℕ) : Type 0 where
  pub done : List ℕ
  pub wrote : Writes before at done after to
  pub makes : numbers_from 0 0 false text ≡ prepend done (numbers_from place value begun (drop i text))
  pub few : to ≤ at + i

module _ (before : List ℕ) (at : ℕ) (text : List ℕ) where
  pub scanned_none : Scanned before at text before at 0 0 false 0
  scanned_none = record { done = []; wrote = writes_none before at; makes = sym (prepend-none _); few = omega arith }

  module _ {after : List ℕ} {to place value : ℕ} {begun : Bool} {i : ℕ} (s : Scanned before at text after to place value begun i) where
    refused : numbers_from place value begun (drop i text) ≡ none → numbers_from 0 0 false text ≡ none
    unfolding prepend Option-elim
    refused e = s.makes ∙ ap (prepend s.done) e

    puts_none : (r : ℕ) (last : List ℕ) → r ≡ 0 → numbers_from place value begun (drop i text) ≡ none → Puts before at (numbers_from 0 0 false text) last r
    puts_none r last z e = subst (λ (o : Option (List ℕ)). Puts before at o last r) (sym (refused e)) z

    pub scanned_digit : i < length text → is_digit (get_or text i 0) ≡ true → 10 * value + (get_or text i 0 - 48) ≤ 255 →
        Scanned before at text after to place (10 * value + (get_or text i 0 - 48)) true (i + 1)
    scanned_digit h d l =
        record { done = s.done; wrote = s.wrote; makes = s.makes ∙ ap (prepend s.done) (reads_digit text i place value begun h d l); few = omega (arith, s.few) }

    pub scanned_end : {last : List ℕ} {r : ℕ} → i < length text → is_digit (get_or text i 0) ≡ false → ends_number place begun (get_or text i 0) ≡ true →
        Writes after to (value ∷ []) last r → Scanned before at text last r (next_place place) 0 false (i + 1)
    scanned_end h d e w =
        record {
          done = s.done ++ (value ∷ []);
          wrote = writes_then s.wrote w;
          makes = s.makes ∙ ap (prepend s.done) (reads_end text i place value begun h d e) ∙ prepend_more s.done (value ∷ []) _;
          few = omega (arith, s.few, w.ends);
        }

    pub puts_big : (r : ℕ) (last : List ℕ) → r ≡ 0 → i < length text → is_digit (get_or text i 0) ≡ true → 255 < 10 * value + (get_or text i 0 - 48) → Puts before at (numbers_from 0 0 false text) last r
    puts_big r last z h d l = puts_none r last z (reads_big text i place value begun h d l)

    pub puts_other : (r : ℕ) (last : List ℕ) → r ≡ 0 → i < length text → is_digit (get_or text i 0) ≡ false →
        ends_number place begun (get_or text i 0) ≡ false → Puts before at (numbers_from 0 0 false text) last r
    puts_other r last z h d e = puts_none r last z (reads_other text i place value begun h d e)

    pub puts_open : (r : ℕ) (last : List ℕ) → r ≡ 0 → length text ≤ i → is_between place begun ≡ false → Puts before at (numbers_from 0 0 false text) last r
    unfolding keep
    puts_open r last z h e = puts_none r last z (reads_last text i place value begun h ∙ ap (λ (b : Bool). keep b []) e)

    pub puts_all : length text ≤ i → is_between place begun ≡ true → Puts before at (numbers_from 0 0 false text) after to
    unfolding keep prepend Option-elim
    puts_all h e =
        subst (λ (o : Option (List ℕ)). Puts before at o after to)
        (sym (s.makes ∙ ap (prepend s.done) (reads_last text i place value begun h ∙ ap (λ (b : Bool). keep b []) e) ∙ ap some (append-nil s.done)))
        s.wrote

pub newline_is : (c : ℕ) → c ≡ 10 → 1 ≡ newline_in c
unfolding newline_in
newline_is c e = rw (eq-eqb c 10 e) refl

pub newline_not : (c : ℕ) → (c ≡ 10 → ⊥) → 0 ≡ newline_in c
unfolding newline_in
newline_not c e = rw (ne_eqb c 10 e) refl

-- the character as it is read, and the state as it is kept
pub digit_is : {b : Bool} {c : ℕ} (d : ℕ) → c ≡ d → is_digit c ≡ b → is_digit d ≡ b
digit_is d e h = ap is_digit (sym e) ∙ h

pub end_is : {b : Bool} {c d : ℕ} (place : ℕ) (begun : Bool) → c ≡ d → ends_number place begun c ≡ b → ends_number place begun d ≡ b
end_is place begun e h = ap (ends_number place begun) (sym e) ∙ h

pub value_as : {before text after : List ℕ} {at to place c d i : ℕ} {begun : Bool} (value : ℕ) → c ≡ d →
    Scanned before at text after to place (10 * value + (d - 48)) begun i → Scanned before at text after to place (10 * value + (c - 48)) begun i
value_as {before} {text} {after} {at} {to} {place} {c} {d} {i} {begun} value e s =
    subst (λ (x : ℕ). Scanned before at text after to place (10 * value + (x - 48)) begun i) (sym e) s

pub place_as : {before text after : List ℕ} {at to place next value i : ℕ} {begun : Bool} → place ≡ next →
    Scanned before at text after to place value begun i → Scanned before at text after to next value begun i
place_as {before} {text} {after} {at} {to} {place} {next} {value} {i} {begun} e s =
    subst (λ (x : ℕ). Scanned before at text after to x value begun i) e s

-- the newlines that a filter keeps
kept_first : (c : ℕ) (kept : List ℕ) (n : ℕ) → length kept ≡ n → (t : Bool) → length (cond t (c ∷ kept) kept) ≡ cond t 1 0 + n
kept_first c kept n h true = omega arith
kept_first c kept n h false = omega arith

pub newlines_kept : (text : List ℕ) → length (filter (λ (c : ℕ). eqb c 10) text) ≡ newlines text
unfolding newlines newline_in
newlines_kept [] = refl
newlines_kept (c ∷ cs) = kept_first c (filter (λ (d : ℕ). eqb d 10) cs) (newlines cs) (newlines_kept cs) (eqb c 10)

-- a word, by the library's test
eqb_turned : (a b : ℕ) → eqb a b ≡ eqb b a
eqb_turned a b = grind (arith, nat_tests)

both_same : (a b c d : Bool) → a ≡ b → c ≡ d → (a && c) ≡ (b and d)
unfolding ◌and◌
both_same true b c d e f = f ∙ ap (λ (t : Bool). t and d) e
both_same false b c d e f = ap (λ (t : Bool). t and d) e

pub begins_with : (word bytes : List ℕ) → pointwise eqb word (take (length word) bytes) ≡ begins word bytes
unfolding begins
begins_with [] bytes = refl
begins_with (w ∷ ws) [] = refl
begins_with (w ∷ ws) (b ∷ bytes) = both_same (eqb w b) (eqb b w) _ _ (eqb_turned w b) (begins_with ws bytes)

pub begins_long : (word bytes : List ℕ) → begins word bytes ≡ true → length word ≤ length bytes
unfolding begins
begins_long [] bytes h = omega arith
begins_long (w ∷ ws) [] h = absurd (false≢true h)
begins_long (w ∷ ws) (b ∷ bytes) h = omega (arith, begins_long ws bytes (and_right (eqb b w) _ h))
