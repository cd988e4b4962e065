-- Words, separators and lines, byte by byte: each law says how a definition goes at a place of the text.
use Prim.Native.Nat.{ℕ, suc, ◌+◌, ◌-◌, ◌≤◌, ◌<◌}
use native.Mathlib.Omega.{arith}
use native.Mathlib.Numerals.{add-one}
use mathlib.Core.Path.{◌≡◌, refl, sym, ap, ◌∙◌}
use mathlib.Core.Bool.{Bool, true, false, ◌&&◌, ◌||◌}
use mathlib.Core.List.{List, [], ◌∷◌}
use lib.ListN.{length, get_or, drop, drop_of_length-le}
use lib.Dec.{eqb, leb}
use borrow.Author.Tests.{eq-eqb, ne_eqb}
use Rattle.logic.specs.Search.{◌and◌, ◌or◌}
use Rattle.text.proofs.Writing.{left_first}
use Rattle.routine_tokens.specs.Tokens.{is_blank, is_letter, is_word_byte, word_length, opens_comment, separates, in_comment, separators}
use Rattle.routine_tokens.specs.Tokens.{line_behind, column_behind, line_from, column_from, line_of, column_of}

-- the code's tests of bytes

pub and_test : (a b : Bool) → (a && b) ≡ (a and b)
unfolding ◌and◌
and_test true b = refl
and_test false b = refl

pub or_test : (a b : Bool) → (a || b) ≡ (a or b)
unfolding ◌or◌
or_test true b = refl
or_test false b = refl

-- the library's letters are the capitals first
letter_test : (capital small line : Bool) → ((capital || small) || line) ≡ (small or capital or line)
unfolding ◌or◌
letter_test true true line = refl
letter_test true false line = refl
letter_test false true line = refl
letter_test false false line = refl

pub letter_ranges : (b : ℕ) → (((leb 65 b && leb b 90) || (leb 97 b && leb b 122)) || eqb b 95) ≡ is_letter b
unfolding is_letter
letter_ranges b =
    letter_test (leb 65 b && leb b 90) (leb 97 b && leb b 122) (eqb b 95) ∙ rw (and_test (leb 97 b) (leb b 122), and_test (leb 65 b) (leb b 90)) refl

module _ (text : List ℕ) (i : ℕ) where
  nothing_left : length text ≤ i → drop i text ≡ []
  nothing_left h = drop_of_length-le text {i = i} h

  pub word_end : length text ≤ i → word_length (drop i text) ≡ 0
  unfolding word_length
  word_end h = ap word_length (nothing_left h)

  pub separators_end : (c : Bool) → length text ≤ i → separators c (drop i text) ≡ 0
  unfolding separators
  separators_end c h = ap (separators c) (nothing_left h)

  module _ (h : i < length text) where
    pub word_here : is_word_byte (get_or text i 0) ≡ true → word_length (drop i text) ≡ word_length (drop (i + 1) text) + 1
    unfolding word_length
    word_here e = ap word_length (left_first text i h) ∙ (rw e refl) ∙ sym (add-one _)

    pub word_not : is_word_byte (get_or text i 0) ≡ false → word_length (drop i text) ≡ 0
    unfolding word_length
    word_not e = ap word_length (left_first text i h) ∙ rw e refl

    pub separator_here : (c : Bool) → separates c (drop i text) ≡ true →
        separators c (drop i text) ≡ separators (in_comment c (get_or text i 0)) (drop (i + 1) text) + 1
    unfolding separators
    separator_here c e = ap (separators c) (left_first text i h) ∙ (rw (ap (separates c) (sym (left_first text i h)) ∙ e) refl) ∙ sym (add-one _)

    pub separator_not : (c : Bool) → separates c (drop i text) ≡ false → separators c (drop i text) ≡ 0
    unfolding separators
    separator_not c e = ap (separators c) (left_first text i h) ∙ rw (ap (separates c) (sym (left_first text i h)) ∙ e) refl

    pub separates_within : leb (get_or text i 0) 127 ≡ separates true (drop i text)
    unfolding separates
    separates_within = sym (ap (separates true) (left_first text i h))

    pub separates_outside : is_blank (get_or text i 0) or opens_comment (drop i text) ≡ separates false (drop i text)
    unfolding separates
    separates_outside =
        ap (λ (bs : List ℕ). is_blank (get_or text i 0) or opens_comment bs) (left_first text i h) ∙ sym (ap (separates false) (left_first text i h))

    pub comment_short : length text ≤ i + 1 → false ≡ opens_comment (drop i text)
    unfolding opens_comment
    comment_short k = sym (ap opens_comment (left_first text i h ∙ ap (λ (bs : List ℕ). get_or text i 0 ∷ bs) (drop_of_length-le text {i = i + 1} k)))

    pub comment_test : i + 1 < length text → eqb (get_or text i 0) 47 and eqb (get_or text (i + 1) 0) 47 ≡ opens_comment (drop i text)
    unfolding opens_comment
    comment_test k = sym (ap opens_comment (left_first text i h ∙ ap (λ (bs : List ℕ). get_or text i 0 ∷ bs) (left_first text (i + 1) k)))

    pub line-next : (line m : ℕ) → line_from line (m + 1) (drop i text) ≡ line_from (line_behind line (get_or text i 0)) m (drop (i + 1) text)
    unfolding line_from
    line-next line m = ap (λ (k : ℕ). line_from line k (drop i text)) (add-one m) ∙ ap (line_from line (suc m)) (left_first text i h)

    pub column_next : (column m : ℕ) → column_from column (m + 1) (drop i text) ≡ column_from (column_behind column (get_or text i 0)) m (drop (i + 1) text)
    unfolding column_from
    column_next column m = ap (λ (k : ℕ). column_from column k (drop i text)) (add-one m) ∙ ap (column_from column (suc m)) (left_first text i h)

module _ (n : ℕ) {b : ℕ} where
  pub line_feed : b ≡ 10 → n + 1 ≡ line_behind n b
  unfolding line_behind
  line_feed e = rw (eq-eqb _ _ e) refl

  pub line_same : (b ≡ 10 → ⊥) → n ≡ line_behind n b
  unfolding line_behind
  line_same e = rw (ne_eqb _ _ e) refl

  pub column_feed : b ≡ 10 → 1 ≡ column_behind n b
  unfolding column_behind
  column_feed e = rw (eq-eqb _ _ e) refl

  pub column_more : (b ≡ 10 → ⊥) → n + 1 ≡ column_behind n b
  unfolding column_behind
  column_more e = rw (ne_eqb _ _ e) refl

-- the rest of a walk from i to the place n, as m + 1 steps
pub one_more : {i n : ℕ} → i < n → n - i ≡ (n - (i + 1)) + 1
one_more h = omega arith

pub no_more : {i n : ℕ} → n ≤ i → n - i ≡ 0
no_more h = omega arith

-- where a walk begins, and where it ends

pub line_done : (text : List ℕ) (i n line : ℕ) → n ≤ i → line ≡ line_from line (n - i) (drop i text)
unfolding line_from
line_done text i n line h = sym (ap (λ (k : ℕ). line_from line k (drop i text)) (no_more h))

pub line_step : (text : List ℕ) (i n line next : ℕ) → i < length text → i < n → next ≡ line_behind line (get_or text i 0) →
    line_from next (n - (i + 1)) (drop (i + 1) text) ≡ line_from line (n - i) (drop i text)
line_step text i n line next h l e =
    ap (λ (k : ℕ). line_from k (n - (i + 1)) (drop (i + 1) text)) e
    ∙ sym (ap (λ (k : ℕ). line_from line k (drop i text)) (one_more l) ∙ line-next text i h line (n - (i + 1)))

pub line_start : (text : List ℕ) (n : ℕ) → line_from 1 (n - 0) (drop 0 text) ≡ line_of text n
unfolding line_of
line_start text n = ap (λ (k : ℕ). line_from 1 k text) all
  where
    all : n - 0 ≡ n
    all = omega arith

pub column_done : (text : List ℕ) (i n column : ℕ) → n ≤ i → column ≡ column_from column (n - i) (drop i text)
unfolding column_from
column_done text i n column h = sym (ap (λ (k : ℕ). column_from column k (drop i text)) (no_more h))

pub column_step : (text : List ℕ) (i n column next : ℕ) → i < length text → i < n → next ≡ column_behind column (get_or text i 0) →
    column_from next (n - (i + 1)) (drop (i + 1) text) ≡ column_from column (n - i) (drop i text)
column_step text i n column next h l e =
    ap (λ (k : ℕ). column_from k (n - (i + 1)) (drop (i + 1) text)) e
    ∙ sym (ap (λ (k : ℕ). column_from column k (drop i text)) (one_more l) ∙ column_next text i h column (n - (i + 1)))

pub column_start : (text : List ℕ) (n : ℕ) → column_from 1 (n - 0) (drop 0 text) ≡ column_of text n
unfolding column_of
column_start text n = ap (λ (k : ℕ). column_from 1 k text) all
  where
    all : n - 0 ≡ n
    all = omega arith
