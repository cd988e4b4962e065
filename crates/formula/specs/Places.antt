-- Where a text is wrong (02, R-7): the faults of a text at each place, and the one that is answered.
use Rattle.std.specs.Prelude.{ℕ, suc, ◌+◌, ◌≤◌, ◌<◌, ◌≡◌, ◌⊎◌, Bool, true, false, cond, List, [], ◌∷◌, length, get_or, take, drop, eqb}
use Rattle.text.specs.Text.{is_digit}
use Rattle.formula.specs.Grammar.{Letter, letter_byte, is_place, shown, Text, Begins}

-- "17 outside the grammar (the first byte that no text of the grammar could have there, or the length)": what stands before the place begins
-- some text of the grammar, and with the byte there nothing does; or the text is no text of the grammar, and only begins one.
pub data Outside (text : List ℕ) (p : ℕ) : Type 0 where
  byte : p < length text → Begins (take p text) → (Begins (take (suc p) text) → ⊥) → Outside text p
  ended : p ≡ length text → Begins text → (Text text → ⊥) → Outside text p

-- the digits at the front of bytes, and what stands behind them
unfoldable pub digits_at : List ℕ → List ℕ
digits_at [] = []
digits_at (b ∷ bs) = cond (is_digit b) (b ∷ digits_at bs) []

unfoldable pub past_digits : List ℕ → List ℕ
past_digits [] = []
past_digits (b ∷ bs) = cond (is_digit b) (past_digits bs) (b ∷ bs)

-- "naming an absent literal (its letter)": at the place stands a letter, with all the digits behind it a name, of a literal that is not there
pub record Absent (has : Letter → ℕ → Bool) (text : List ℕ) (p : ℕ) : Type 0 where
  pub inside : p < length text
  pub letter : Letter
  pub letter_is : get_or text p 0 ≡ letter_byte letter
  pub named : is_place (digits_at (drop (suc p) text)) ≡ true
  pub absent : has letter (shown 0 (digits_at (drop (suc p) text))) ≡ false

-- how often a byte stands in bytes
unfoldable pub occurrences : ℕ → List ℕ → ℕ
occurrences a [] = 0
occurrences a (b ∷ bs) = cond (eqb a b) (suc (occurrences a bs)) (occurrences a bs)

-- "18 too deep (the 33rd parenthesis open at once)": a parenthesis is opened, and `most` of those before it are still open
pub record TooDeep (most : ℕ) (text : List ℕ) (p : ℕ) : Type 0 where
  pub inside : p < length text
  pub opening : get_or text p 0 ≡ 40
  pub still_open : occurrences 41 (take p text) + most ≤ occurrences 40 (take p text)

-- refusals 17 and 18 at a place, of a text that is not too long
abbrev pub Fault17 : (Letter → ℕ → Bool) → List ℕ → ℕ → Type 0
Fault17 has text p = Outside text p ⊎ Absent has text p

abbrev pub Fault18 : List ℕ → ℕ → Type 0
Fault18 text p = TooDeep 32 text p

-- "lowest place first, 17 on a tie"
abbrev pub NoneBefore : (Letter → ℕ → Bool) → List ℕ → ℕ → Type 0
NoneBefore has text p = (j : ℕ) → j < p → (Fault17 has text j → ⊥) × (Fault18 text j → ⊥)

pub data FirstFault (has : Letter → ℕ → Bool) (text : List ℕ) : ℕ → ℕ → Type 0 where
  wrong : {p : ℕ} → Fault17 has text p → NoneBefore has text p → FirstFault has text 17 p
  deep : {p : ℕ} → Fault18 text p → (Fault17 has text p → ⊥) → NoneBefore has text p → FirstFault has text 18 p
