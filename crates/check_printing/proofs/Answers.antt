-- The bytes of a text's derivation, and the texts of answers. Assumes nothing.
use Prim.Native.Nat.{ℕ, ◌+◌, ◌-◌, ◌*◌, ◌/◌, ◌%◌, ◌≤◌, ◌<◌, min}
use native.Mathlib.Omega.{arith}
use mathlib.Core.Path.{◌≡◌, refl, sym, ap, ◌∙◌}
use mathlib.Core.Logic.{⊎_elim}
use mathlib.Core.Bool.{Bool, true, false, cond}
use mathlib.Core.List.{List, [], ◌∷◌, ◌++◌}
use mathlib.Core.Option.{Option, none, some, Option-elim}
use lib.ListN.{length, get_or, take, drop, length-drop, drop_of_length-le}
use lib.Seq.{take_all, take-nil}
use lib.Dec.{eqb, ltb}
use borrow.Author.Tests.{lt-ltb, le-ltb, eqb-true}
use Rattle.logic.specs.Calls.{CallForm}
use Rattle.theory.proofs.Basics.Search.{and_right, none-some, keep_some}
use Rattle.theory.proofs.Basics.Compare.{le_cases}
use Rattle.text.specs.Text.{Writes, ascii, decimal, is_digit}
use Rattle.text.proofs.Writing.{writes_then, writes_taken}
use Rattle.wording.specs.Words.{refused_text}
use Rattle.checking.specs.CheckCall.{count_in, check_call_of}
use Rattle.checker.specs.Promise.{judged_as, meaning}
use Rattle.std.specs.Prelude.{Option as Found, Some, None, Result, Ok, Err}
use Rattle.refusals.specs.declared.Refusal.{Refusal}
use Rattle.refusals.specs.Numbers.{number_of}
use Rattle.decimal_lines.specs.DecimalLines.{begins, ends_number, next_place, is_between, prepend, numbers_from, newline_in, newlines}
use Rattle.check_printing.specs.CheckText.{text_bytes, derivation_in, checked_text, check_text_of}
use Rattle.decimal_lines.specs.Puts.{Puts}
use Rattle.decimal_lines.proofs.Reading.{digit_range, place_on, place_back, newline_is, newline_not}

some_same : {ns ms : List ℕ} → some ns ≡ some ms → ns ≡ ms
some_same e = cc

-- a line has four numbers: as many are read as lines end, but for the line that is begun
ends-place : (place : ℕ) (begun : Bool) (c : ℕ) → place ≤ 3 → ends_number place begun c ≡ true → 4 * newline_in c + next_place place ≡ place + 1
unfolding ends_number
ends-place place begun c l h =
    let e : eqb c (cond (ltb place 3) 32 10) ≡ true = and_right begun _ h in
    ⊎_elim
    (λ (m : 3 ≤ place).
    let t : c ≡ 10 = eqb-true c 10 (sym (ap (λ (b : Bool). eqb c (cond b 32 10)) (le-ltb place 3 m)) ∙ e) in
    omega (arith, newline_is c t, place_back place m))
    (λ (m : place < 3).
    let t : c ≡ 32 = eqb-true c 32 (sym (ap (λ (b : Bool). eqb c (cond b 32 10)) (lt-ltb place 3 m)) ∙ e) in
    omega (arith, newline_not c (λ (z : c ≡ 10). omega arith), place_on place m))
    (le_cases 3 place)

next_few : (place : ℕ) → next_place place ≤ 3
next_few place =
    ⊎_elim (λ (m : 3 ≤ place). omega (arith, place_back place m)) (λ (m : place < 3). omega (arith, place_on place m)) (le_cases 3 place)

-- what is left where numbers were read
kept_unless : {o : Option (List ℕ)} {ns : List ℕ} (b : Bool) → cond b none o ≡ some ns → o ≡ some ns
kept_unless true h = absurd (none-some h)
kept_unless false h = h

kept_if : {o : Option (List ℕ)} {ns : List ℕ} (b : Bool) → cond b o none ≡ some ns → (b ≡ true) × (o ≡ some ns)
kept_if true h = (refl, h)
kept_if false h = absurd (none-some h)

prepend-some : {ns : List ℕ} (v : ℕ) (o : Option (List ℕ)) → prepend (v ∷ []) o ≡ some ns → (ms : List ℕ) × (o ≡ some ms) × (ns ≡ v ∷ ms)
unfolding prepend Option-elim
prepend-some v none h = absurd (none-some h)
prepend-some v (some ms) h = (ms, refl, sym (some_same h))

between_place : (place : ℕ) (begun : Bool) → is_between place begun ≡ true → place ≡ 0
unfolding is_between
between_place place begun h = eqb-true place 0 (and_right _ _ h)

-- a line has four numbers: of the numbers from a place in a line on
module _ (c : ℕ) (cs ns : List ℕ) (place value : ℕ) (begun : Bool) (l : place ≤ 3) where
  abbrev Counted : Type 0
  Counted = length ns + place ≡ 4 * newlines (c ∷ cs)

  digit_counted : is_digit c ≡ true → length ns + place ≡ 4 * newlines cs → Counted
  unfolding newlines
  digit_counted d ih = omega (arith, ih, newline_not c (λ (z : c ≡ 10). omega (arith, (digit_range c d).0)))

  end_counted : (ms : List ℕ) → ends_number place begun c ≡ true → ns ≡ value ∷ ms → length ms + next_place place ≡ 4 * newlines cs → Counted
  unfolding newlines
  end_counted ms e f ih = omega (arith, ih, ends-place place begun c l e, ap length f)

pub numbers_length : (text ns : List ℕ) (place value : ℕ) (begun : Bool) → place ≤ 3 → numbers_from place value begun text ≡ some ns → length ns + place ≡ 4 * newlines text
unfolding numbers_from newlines
numbers_length [] ns place value begun l h =
    let (b, e) = keep_some (is_between place begun) h in omega (arith, between_place place begun b, ap length e)
numbers_length (c ∷ cs) ns place value begun l h =
    at_digit
    (λ ms place value begun. numbers_length cs ms place value begun)
    (is_digit c) refl h
  where
    at_digit : ((ms : List ℕ) (place value : ℕ) (begun : Bool) → place ≤ 3 → numbers_from place value begun cs ≡ some ms → length ms + place ≡ 4 * newlines cs) → (b : Bool) → is_digit c ≡ b → cond b (cond (ltb 255 (10 * value + (c - 48))) none (numbers_from place (10 * value + (c - 48)) true cs)) (cond (ends_number place begun c) (prepend (value ∷ []) (numbers_from (next_place place) 0 false cs)) none) ≡ some ns → length ns + place ≡ 4 * newlines (c ∷ cs)
    at_digit ih true d k =
        digit_counted c cs ns place value begun l d (ih ns place (10 * value + (c - 48)) true l (kept_unless (ltb 255 (10 * value + (c - 48))) k))
    at_digit ih false d k =
        let e = kept_if (ends_number place begun c) k in
        let m = prepend-some value (numbers_from (next_place place) 0 false cs) e.1 in
        end_counted c cs ns place value begun l m.0 e.0 m.2 (ih m.0 (next_place place) 0 false (next_few place) m.1)

-- the bytes that a text shows, case by case
module _ (text : List ℕ) where
  pub text_long : 256000 < length text → [] ≡ text_bytes text
  unfolding text_bytes
  text_long h = rw (lt-ltb 256000 (length text) h) refl

  module _ (count : ℕ) (fits : length text ≤ 256000) (e : count ≡ newlines text) where
    pub text_many : 16000 < count → [] ≡ text_bytes text
    unfolding text_bytes
    text_many h = rw (le-ltb 256000 (length text) fits, lt-ltb 16000 (newlines text) (omega arith)) refl

    text_shown : count ≤ 16000 → text_bytes text ≡ Option-elim (numbers_from 0 0 false text) [] (λ ns. count / 256 ∷ count % 256 ∷ ns)
    unfolding text_bytes
    text_shown h = rw (le-ltb 256000 (length text) fits, le-ltb 16000 (newlines text) (omega arith), e) refl

    pub text-read : {a b c : List ℕ} (d : List ℕ) {low first : ℕ} (r : ℕ) → count ≤ 16000 → length a ≡ 64002 → Writes a 0 (count / 256 ∷ []) b low → Writes b low (count % 256 ∷ []) c first → Puts c first (numbers_from 0 0 false text) d r → (r ≤ 64002) × (take r d ≡ text_bytes text)
    unfolding Option-elim
    text-read {a} {b} {c} d {low} {first} r h room w v p = go (numbers_from 0 0 false text) refl p
      where
        go : (o : Option (List ℕ)) → numbers_from 0 0 false text ≡ o → Puts c first o d r → (r ≤ 64002) × (take r d ≡ text_bytes text)
        go none k z = (omega arith, ap (λ (n : ℕ). take n d) z ∙ sym (text_shown h ∙ ap (λ (o : Option (List ℕ)). Option-elim o [] (λ ns. count / 256 ∷ count % 256 ∷ ns)) k))
        go (some ns) k z =
            let whole = writes_then (writes_then w v) z in
            let n = numbers_length text ns 0 0 false (omega arith) k in
            let few : r ≤ 64002 = omega (arith, n, w.ends, v.ends, z.ends) in
            (few, writes_taken whole (omega arith) ∙ sym (text_shown h ∙ ap (λ (o : Option (List ℕ)). Option-elim o [] (λ ns. count / 256 ∷ count % 256 ∷ ns)) k))

-- what stands behind the query
module _ (rest : List ℕ) where
  pub bytes_there : {b : Bool} → b ≡ begins (ascii "unsat\n") rest → b ≡ false → rest ≡ derivation_in rest
  unfolding derivation_in
  bytes_there e f = ap (λ (t : Bool). cond t (text_bytes (drop 6 rest)) rest) (sym f ∙ e)

  pub text_there : {b : Bool} → b ≡ begins (ascii "unsat\n") rest → b ≡ true → text_bytes (take (length rest - 6) (drop 6 rest)) ≡ derivation_in rest
  unfolding derivation_in
  text_there e f =
      ap text_bytes (take_all (length rest - 6) (drop 6 rest) (omega (arith, length-drop 6 rest)))
      ∙ ap (λ (t : Bool). cond t (text_bytes (drop 6 rest)) rest) (sym f ∙ e)

-- the words of an answer
module _ (o : Found ℕ) where
  pub accepted_words : o ≡ None → ascii "accepted\n" ≡ checked_text (judged_as o)
  unfolding checked_text
  accepted_words e = sym (ap (λ (x : Found ℕ). checked_text (judged_as x)) e)

  pub wrong_words : (k : ℕ) → o ≡ Some k → ascii "wrong line " ++ (decimal k ++ ascii "\n") ≡ checked_text (judged_as o)
  unfolding checked_text
  wrong_words k e = sym (ap (λ (x : Found ℕ). checked_text (judged_as x)) e)

module _ (a : Result (Found ℕ) Refusal) where
  pub found_words : (o : Found ℕ) → a ≡ Ok o → checked_text (judged_as o) ≡ checked_text (meaning a)
  found_words o e = sym (ap (λ (b : Result (Found ℕ) Refusal). checked_text (meaning b)) e)

  pub refused_words : (x : Refusal) → a ≡ Err x → refused_text (number_of x.fault) x.place ++ ascii "\n" ≡ checked_text (meaning a)
  unfolding checked_text
  refused_words x e = sym (ap (λ (b : Result (Found ℕ) Refusal). checked_text (meaning b)) e)

pub size_is : {p q : ℕ} (bytes : List ℕ) → p ≡ get_or bytes 0 0 → q ≡ get_or bytes 1 0 → 256 * p + q ≡ count_in bytes
unfolding count_in
size_is bytes e f = omega arith

-- the query and what stands behind it among the bytes that are read
module _ (bytes : List ℕ) (size from to : ℕ) (s : size ≡ count_in bytes) (f : from ≡ min (length bytes) 2) (t : to ≡ min (length bytes) (2 + size)) where
  pub query_read : take (to - from) (drop from bytes) ≡ take size (drop 2 bytes)
  query_read = ⊎_elim long short (le_cases 2 (length bytes))
    where
      short : length bytes < 2 → take (to - from) (drop from bytes) ≡ take size (drop 2 bytes)
      short l =
          ap (take (to - from)) (drop_of_length-le bytes {i = from} (omega arith))
          ∙ take-nil (to - from) ∙ sym (take-nil size)
          ∙ ap (take size) (sym (drop_of_length-le bytes {i = 2} (omega arith)))

      long : 2 ≤ length bytes → take (to - from) (drop from bytes) ≡ take size (drop 2 bytes)
      long l =
          let k : from ≡ 2 = omega arith in
          ap (λ (j : ℕ). take (to - j) (drop j bytes)) k
          ∙ ⊎_elim
          (λ (m : 2 + size ≤ length bytes). let n : to - 2 ≡ size = omega arith in ap (λ (j : ℕ). take j (drop 2 bytes)) n)
          (λ (m : length bytes < 2 + size).
          take_all (to - 2) (drop 2 bytes) (omega (arith, length-drop 2 bytes)) ∙ sym (take_all size (drop 2 bytes) (omega (arith, length-drop 2 bytes))))
          (le_cases (2 + size) (length bytes))

  rest_read : drop to bytes ≡ drop (2 + size) bytes
  rest_read =
      ⊎_elim
      (λ (m : 2 + size ≤ length bytes). let n : to ≡ 2 + size = omega arith in ap (λ (j : ℕ). drop j bytes) n)
      (λ (m : length bytes < 2 + size). drop_of_length-le bytes {i = to} (omega arith) ∙ sym (drop_of_length-le bytes {i = 2 + size} (omega arith)))
      (le_cases (2 + size) (length bytes))

  pub rest-whole : take (length bytes - to) (drop to bytes) ≡ drop (2 + size) bytes
  rest-whole = take_all (length bytes - to) (drop to bytes) (omega (arith, length-drop to bytes)) ∙ rest_read

  pub input_read : (form : CallForm) → checked_text (check_call_of form (take (to - from) (drop from bytes)) (derivation_in (take (length bytes - to) (drop to bytes)))) ≡ check_text_of form bytes
  unfolding check_text_of
  input_read form =
      ap (λ (q : List ℕ). checked_text (check_call_of form q (derivation_in (take (length bytes - to) (drop to bytes))))) query_read
      ∙ ap (λ (r : List ℕ). checked_text (check_call_of form (take size (drop 2 bytes)) (derivation_in r))) rest-whole
      ∙ ap (λ (n : ℕ). checked_text (check_call_of form (take n (drop 2 bytes)) (derivation_in (drop (2 + n) bytes)))) s
