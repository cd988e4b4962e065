-- The words as they are written, part by part. Assumes nothing.
use Prim.Native.Nat.{ℕ, suc, ◌+◌, ◌-◌, ◌*◌, ◌/◌, ◌≤◌, ◌<◌}
use native.Mathlib.Omega.{arith}
use native.Mathlib.Numerals.{add-one}
use native.Mathlib.Nat.{le_refl, mul-le-mul}
use mathlib.Core.Path.{◌≡◌, refl, sym, ap, ◌∙◌}
use mathlib.Core.Bool.{true}
use mathlib.Core.List.{List, [], ◌∷◌, ◌++◌, map}
use lib.ListN.{length, get_or, take, drop, length-drop, drop_of_length-le}
use lib.Seq.{length-take-le, drop-cons, get_or-take}
use borrow.Author.Tests.{leb-true}
use Rattle.logic.specs.Facts.{line}
use Rattle.logic.specs.Derivation.{line_bytes}
use Rattle.logic.specs.Shown.{size_in, is_node, well_formed}
use Rattle.theory.proofs.Basics.Search.{and_left, and_right}
use Rattle.theory.proofs.Basics.Compare.{eqb-true}
use Rattle.text.specs.Text.{ascii, decimal, hex_byte}
use Rattle.wording.specs.Words.{behind, line_of, refused_text, refusal_text, report_size, report_text, line_text}

-- Refusals and lines, from their words

pub refused_words : (k place : ℕ) → ascii "refused " ++ (decimal k ++ (ascii " at " ++ decimal place)) ≡ refused_text k place
unfolding refused_text
refused_words k place = refl

pub refusal_words : (k place : ℕ) → refused_text k place ++ ascii "\n" ≡ refusal_text k place
unfolding refusal_text
refusal_words k place = refl

pub line_words : (a b c d : ℕ) → decimal a ++ ((ascii " " ++ decimal b) ++ ((ascii " " ++ decimal c) ++ ((ascii " " ++ decimal d) ++ ascii "\n"))) ≡ line_text (line a b c d)
unfolding line_text line_of behind line_bytes
line_words a b c d = refl

-- Reports. The counts of a well-formed one with so many links, as they are read.
pub record Sized (bytes : List ℕ) (links p n : ℕ) : Type 0 where
  pub successors : p ≤ 16 * links
  pub terms : n ≤ 16
  pub nodes : p / links ≤ 16
  pub whole : p + n + p / links + 5 ≤ length bytes
  pub counted : p + n + p / links + 5 ≡ report_size bytes

pub report_sized : (bytes : List ℕ) (links p n : ℕ) → well_formed links bytes ≡ true → p ≡ get_or bytes 0 0 → n ≡ get_or bytes (p + 1) 0 → Sized bytes links p n
unfolding well_formed is_node size_in report_size
report_sized bytes links p n formed ep en = rw (ep, en ∙ ap (λ (k : ℕ). get_or bytes (k + 1) 0) ep) (go formed)
  where
    go : well_formed links bytes ≡ true → Sized bytes links (get_or bytes 0 0) (get_or bytes (get_or bytes 0 0 + 1) 0)
    go h =
        let p : ℕ = get_or bytes 0 0 in
        let n : ℕ = get_or bytes (p + 1) 0 in
        let third = and_left _ _ (and_left _ _ (and_left _ _ (and_left _ _ h))) in
        let sizes = and_left _ _ third in
        let counts = and_left _ _ sizes in
        let firsts = and_left _ _ counts in
        let split : links * (p / links) ≡ p = eqb-true _ _ (and_left _ _ firsts) in
        let few : p / links ≤ 16 = leb-true _ 16 (and_right _ _ (and_right _ _ firsts)) in
        let terms : n ≤ 16 = leb-true _ 16 (and_right _ _ counts) in
        let fits : p + n + p / links + 5 ≤ length bytes = leb-true _ _ (and_right _ _ sizes) in
        let last : get_or bytes (p + n + 2) 0 ≡ p / links = eqb-true _ _ (and_right _ _ third) in
        let most : links * (p / links) ≤ links * 16 = mul-le-mul (le_refl links) few in
        record { successors = omega (arith, split, most); terms = terms; nodes = few; whole = fits; counted = ap (λ (k : ℕ). p + n + k + 5) (sym last) }

-- the bytes of a report from i on
abbrev pub left : ℕ → List ℕ → ℕ → List ℕ
left size bytes i = behind (map hex_byte (drop i (take size bytes)))

pub behind-length : (xs : List ℕ) → length (behind (map hex_byte xs)) ≡ 3 * length xs + 1
unfolding behind hex_byte
behind-length [] = refl
behind-length (x ∷ xs) = let ih = behind-length xs in omega arith

module _ (size : ℕ) (bytes : List ℕ) (fits : size ≤ length bytes) where
  taken : length (take size bytes) ≡ size
  taken = length-take-le size bytes fits

  from_here : (i : ℕ) → i < size → drop i (take size bytes) ≡ get_or bytes i 0 ∷ drop (i + 1) (take size bytes)
  from_here i h =
      drop-cons (take size bytes) i 0 (omega (arith, taken))
      ∙ ap (λ (b : ℕ). b ∷ drop (suc i) (take size bytes)) (get_or-take size bytes i 0 h)
      ∙ ap (λ (k : ℕ). get_or bytes i 0 ∷ drop k (take size bytes)) (sym (add-one i))

  pub report_first : size ≡ report_size bytes → 0 < size → report_text bytes ≡ hex_byte (get_or bytes 0 0) ++ left size bytes 1
  unfolding report_text line_of
  report_first e h = ap (λ (k : ℕ). line_of (map hex_byte (take k bytes))) (sym e) ∙ ap (λ (xs : List ℕ). line_of (map hex_byte xs)) (from_here 0 h)

  pub report_next : (i : ℕ) → i < size → left size bytes i ≡ (ascii " " ++ hex_byte (get_or bytes i 0)) ++ left size bytes (i + 1)
  unfolding behind
  report_next i h = ap (λ (xs : List ℕ). behind (map hex_byte xs)) (from_here i h)

  pub report_end : (i : ℕ) → size ≤ i → left size bytes i ≡ ascii "\n"
  unfolding behind
  report_end i h = ap (λ (xs : List ℕ). behind (map hex_byte xs)) (drop_of_length-le (take size bytes) {i = i} (omega (arith, taken)))

  -- three bytes for each, the blank in front or the newline at the end with it
  pub left-length : (i : ℕ) → length (left size bytes i) ≡ 3 * (size - i) + 1
  left-length i =
      behind-length (drop i (take size bytes)) ∙ ap (λ (k : ℕ). 3 * k + 1) (length-drop i (take size bytes) ∙ ap (λ (k : ℕ). k - i) taken)
