-- What heapverdict and linksverdict print of a derivation is read back as its bytes. Assumes nothing.
use Prim.Native.Nat.{ℕ, ◌+◌, ◌-◌, ◌*◌, ◌/◌, ◌%◌, ◌≤◌, ◌<◌}
use native.Mathlib.Omega.{arith}
use mathlib.Core.Path.{◌≡◌, refl, sym, ap, ◌∙◌}
use mathlib.Core.Bool.{Bool, true, false}
use mathlib.Core.Logic.{⊎_elim}
use mathlib.Core.List.Memᴰ
use mathlib.Core.List.{List, [], ◌∷◌, ◌++◌, append_assoc}
use mathlib.Core.Option.{Option, some, Option-elim}
use lib.ListN.{length, length-append}
use borrow.Author.Tests.{lt-ltb, le-ltb}
use Rattle.logic.specs.Search.{◌and◌, all, flat_map, keep}
use Rattle.logic.specs.Facts.{Line, line}
use Rattle.logic.specs.Derivation.{Derivation, line_bytes, derivation_bytes}
use Rattle.logic.specs.Calls.{CallForm, accepts_by}
use Rattle.theory.proofs.Basics.Search.{and_left, and_right}
use Rattle.theory.proofs.Basics.Compare.{le_cases}
use Rattle.theory.proofs.Calls.CallLaws.{FormLaws}
use Rattle.text.specs.Text.{ascii, decimal, number_from, number_in, is_digit}
use Rattle.text.proofs.Digits.{decimal-small, decimal_more, decimal_byte}
use Rattle.text.proofs.Pinned.{decimal_reads, decimal_digits}
use Rattle.wording.specs.Words.{line_text}
use Rattle.wording.proofs.Texts.{line_words}
use Rattle.checking.specs.CheckCall.{accepted, check_call_of}
use Rattle.checking.specs.Claims.{Bytes, AllBytes}
use Rattle.checking.proofs.Bytes.{FormBytes, derivation_bytes_lem}
use Rattle.checking.proofs.Claims.{derivation_accepted}
use Rattle.decimal_lines.specs.DecimalLines.{ends_number, next_place, is_between, prepend, numbers_from, newline_in, newlines}
use Rattle.check_printing.specs.CheckText.{text_bytes}
use Rattle.decimal_lines.proofs.Reading.{digit_range, newline_not, prepend_more}

-- digits are read to the number that they show
number_grows : (v : ℕ) (ds : List ℕ) → v ≤ number_from v ds
unfolding number_from
number_grows v [] = omega arith
number_grows v (d ∷ ds) = omega (arith, number_grows (10 * v + (d - 48)) ds)

-- the number that a digit goes on with
abbrev goes_on : ℕ → ℕ → ℕ
goes_on v d = 10 * v + (d - 48)

module _ (place : ℕ) (rest : List ℕ) where
  digit_read : (v d : ℕ) (begun : Bool) (ds : List ℕ) → is_digit d ≡ true → goes_on v d ≤ 255 → numbers_from place v begun (d ∷ (ds ++ rest)) ≡ numbers_from place (goes_on v d) true (ds ++ rest)
  unfolding numbers_from
  digit_read v d begun ds e l = rw (e, le-ltb 255 (goes_on v d) l) refl

  digits_read : (v : ℕ) (ds : List ℕ) → all is_digit ds ≡ true → number_from v ds ≤ 255 → numbers_from place v true (ds ++ rest) ≡ numbers_from place (number_from v ds) true rest
  unfolding number_from all
  digits_read v [] a l = refl
  digits_read v (d ∷ ds) a l =
      digit_read v d true ds (and_left (is_digit d) _ a) (omega (arith, number_grows (10 * v + (d - 48)) ds))
      ∙ digits_read (10 * v + (d - 48)) ds (and_right (is_digit d) _ a) l

  shown_read : (ds : List ℕ) → 0 < length ds → all is_digit ds ≡ true → number_from 0 ds ≤ 255 → numbers_from place 0 false (ds ++ rest) ≡ numbers_from place (number_from 0 ds) true rest
  unfolding number_from all
  shown_read [] n a l = absurd (omega arith)
  shown_read (d ∷ ds) n a l =
      digit_read 0 d false ds (and_left (is_digit d) _ a) (omega (arith, number_grows (10 * 0 + (d - 48)) ds))
      ∙ digits_read (10 * 0 + (d - 48)) ds (and_right (is_digit d) _ a) l

decimal-some : (k : ℕ) → 0 < length (decimal k)
decimal-some k =
    ⊎_elim
    (λ (m : 10 ≤ k). omega (arith, ap length (decimal_more k m), length-append (decimal (k / 10)) ((48 + k % 10) ∷ [])))
    (λ (m : k < 10). omega (arith, ap length (decimal-small k m)))
    (le_cases 10 k)

decimal_read : (place k : ℕ) (rest : List ℕ) → k < 256 → numbers_from place 0 false (decimal k ++ rest) ≡ numbers_from place k true rest
unfolding number_in
decimal_read place k rest h =
    let e : number_from 0 (decimal k) ≡ k = decimal_reads k in
    shown_read place rest (decimal k) (decimal-some k) (decimal_digits k) (omega (arith, e))
    ∙ ap (λ (v : ℕ). numbers_from place v true rest) e

-- a blank behind each of the first three, a newline behind the fourth
blank_read : (place k : ℕ) (rest : List ℕ) → place < 3 → numbers_from place k true (ascii " " ++ rest) ≡ prepend (k ∷ []) (numbers_from (place + 1) 0 false rest)
unfolding numbers_from is_digit ends_number next_place ◌and◌
blank_read place k rest h = rw (lt-ltb place 3 h) refl

end_read : (k : ℕ) (rest : List ℕ) → numbers_from 3 k true (ascii "\n" ++ rest) ≡ prepend (k ∷ []) (numbers_from 0 0 false rest)
unfolding numbers_from is_digit ends_number next_place ◌and◌
end_read k rest = refl

number_read : (place k : ℕ) (rest : List ℕ) → place < 3 → k < 256 → numbers_from place 0 false (decimal k ++ (ascii " " ++ rest)) ≡ prepend (k ∷ []) (numbers_from (place + 1) 0 false rest)
number_read place k rest p h = decimal_read place k (ascii " " ++ rest) h ∙ blank_read place k rest p

abbrev words : ℕ → ℕ → ℕ → ℕ → List ℕ → List ℕ
words a b c d rest = decimal a ++ (ascii " " ++ (decimal b ++ (ascii " " ++ (decimal c ++ (ascii " " ++ (decimal d ++ (ascii "\n" ++ rest)))))))

line_spread : (a b c d : ℕ) (rest : List ℕ) → line_text (line a b c d) ++ rest ≡ words a b c d rest
line_spread a b c d rest =
    ap (λ (t : List ℕ). t ++ rest) (sym (line_words a b c d))
    ∙ append_assoc (decimal a) _ rest
    ∙ ap (λ (t : List ℕ). decimal a ++ (ascii " " ++ t)) (append_assoc (decimal b) _ rest
    ∙ ap (λ (t : List ℕ). decimal b ++ (ascii " " ++ t)) (append_assoc (decimal c) _ rest
    ∙ ap (λ (t : List ℕ). decimal c ++ (ascii " " ++ t)) (append_assoc (decimal d) _ rest)))

line_read : (l : Line) (rest : List ℕ) → Bytes l → numbers_from 0 0 false (line_text l ++ rest) ≡ prepend (line_bytes l) (numbers_from 0 0 false rest)
unfolding line_bytes
line_read (line a b c d) rest (p, q, r, s) =
    ap (numbers_from 0 0 false) (line_spread a b c d rest)
    ∙ number_read 0 a _ (omega arith) p
    ∙ ap (prepend (a ∷ [])) (number_read 1 b _ (omega arith) q
    ∙ ap (prepend (b ∷ [])) (number_read 2 c _ (omega arith) r
    ∙ ap (prepend (c ∷ [])) (decimal_read 3 d _ s ∙ end_read d rest)))
    ∙ ap (λ (o : Option (List ℕ)). prepend (a ∷ []) (prepend (b ∷ []) o)) (prepend_more (c ∷ []) (d ∷ []) _)
    ∙ ap (prepend (a ∷ [])) (prepend_more (b ∷ []) (c ∷ d ∷ []) _)
    ∙ prepend_more (a ∷ []) (b ∷ c ∷ d ∷ []) _

prepended : (ns ms : List ℕ) → prepend ns (some ms) ≡ some (ns ++ ms)
unfolding prepend Option-elim
prepended ns ms = refl

lines_read : (ls : List Line) → AllBytes ls → numbers_from 0 0 false (flat_map line_text ls) ≡ some (flat_map line_bytes ls)
unfolding flat_map numbers_from is_between keep ◌and◌
lines_read [] b = refl
lines_read (l ∷ ls) b =
    line_read l (flat_map line_text ls) (b l (Memᴰ.head refl))
    ∙ ap (prepend (line_bytes l)) (lines_read ls (λ k m. b k (Memᴰ.tail m)))
    ∙ prepended (line_bytes l) (flat_map line_bytes ls)

-- a newline each, and at most 16 bytes
newlines-append : (xs ys : List ℕ) → newlines (xs ++ ys) ≡ newlines xs + newlines ys
unfolding newlines
newlines-append [] ys = omega arith
newlines-append (x ∷ xs) ys = omega (arith, newlines-append xs ys)

newlines_digits : (ds : List ℕ) → all is_digit ds ≡ true → newlines ds ≡ 0
unfolding newlines all
newlines_digits [] a = refl
newlines_digits (d ∷ ds) a =
    omega (arith, newlines_digits ds (and_right (is_digit d) _ a), newline_not d (λ (z : d ≡ 10). omega (arith, (digit_range d (and_left (is_digit d) _ a)).0)))

newlines_number : (k : ℕ) (rest : List ℕ) → newlines (decimal k ++ rest) ≡ newlines rest
newlines_number k rest = omega (arith, newlines-append (decimal k) rest, newlines_digits (decimal k) (decimal_digits k))

newlines_blank : (rest : List ℕ) → newlines (ascii " " ++ rest) ≡ newlines rest
unfolding newlines newline_in
newlines_blank rest = omega arith

newlines_end : (rest : List ℕ) → newlines (ascii "\n" ++ rest) ≡ 1 + newlines rest
unfolding newlines newline_in
newlines_end rest = refl

newlines-line : (a b c d : ℕ) (rest : List ℕ) → newlines (line_text (line a b c d) ++ rest) ≡ 1 + newlines rest
newlines-line a b c d rest =
    ap newlines (line_spread a b c d rest)
    ∙ newlines_number a _ ∙ newlines_blank _ ∙ newlines_number b _ ∙ newlines_blank _ ∙ newlines_number c _ ∙ newlines_blank _ ∙ newlines_number d _ ∙ newlines_end rest

lines_counted : (ls : List Line) → newlines (flat_map line_text ls) ≡ length ls
unfolding flat_map newlines
lines_counted [] = refl
lines_counted (line a b c d ∷ ls) = omega (arith, newlines-line a b c d (flat_map line_text ls), lines_counted ls)

line_short : (a b c d : ℕ) (rest : List ℕ) → Bytes (line a b c d) → length (line_text (line a b c d) ++ rest) ≤ 16 + length rest
line_short a b c d rest (p, q, r, s) =
    let last : List ℕ = ascii "\n" ++ rest in
    let third : List ℕ = ascii " " ++ (decimal d ++ last) in
    let second : List ℕ = ascii " " ++ (decimal c ++ third) in
    let first : List ℕ = ascii " " ++ (decimal b ++ second) in
    omega (
      arith,
      ap length (line_spread a b c d rest),
      length-append (decimal a) first,
      length-append (decimal b) second,
      length-append (decimal c) third,
      length-append (decimal d) last,
      decimal_byte a p,
      decimal_byte b q,
      decimal_byte c r,
      decimal_byte d s,
    )

lines_short : (ls : List Line) → AllBytes ls → length (flat_map line_text ls) ≤ 16 * length ls
unfolding flat_map
lines_short [] b = omega arith
lines_short (line a b c d ∷ ls) p =
    omega (arith, line_short a b c d (flat_map line_text ls) (p (line a b c d) (Memᴰ.head refl)), lines_short ls (λ k m. p k (Memᴰ.tail m)))

text_lines : (ls : List Line) → AllBytes ls → length ls ≤ 16000 → text_bytes (flat_map line_text ls) ≡ derivation_bytes ls
unfolding text_bytes derivation_bytes Option-elim
text_lines ls b h =
    rw (le-ltb 256000 (length (flat_map line_text ls)) (omega (arith, lines_short ls b)), lines_counted ls, le-ltb 16000 (length ls) h, lines_read ls b) refl

-- of a query in either form
module _ (f : CallForm) (laws : FormLaws f) (bytes : FormBytes f) (query : List ℕ) (ls : List Line) (a : accepts_by f query ≡ true) (d : Derivation (f.decode query) ls) (few : length ls ≤ 16000) where
  -- the lines of a derivation as heapverdict and linksverdict print them are read back as its bytes
  pub printed_read : text_bytes (flat_map line_text ls) ≡ derivation_bytes ls
  printed_read = text_lines ls (derivation_bytes_lem f laws bytes query a d) few

  -- so that what refutes a query is accepted as they would print it
  pub printed_accepted : check_call_of f query (text_bytes (flat_map line_text ls)) ≡ accepted
  printed_accepted = ap (check_call_of f query) printed_read ∙ derivation_accepted f query ls a d few
