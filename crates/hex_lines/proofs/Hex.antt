-- Bytes in hex, one by one. Assumes nothing.
use Prim.Native.Nat.{ℕ, zero, suc, ◌+◌, ◌-◌, ◌*◌, ◌≤◌, ◌<◌}
use native.Mathlib.Omega.{arith}
use native.Mathlib.Numerals.{add-one}
use mathlib.Core.Path.{◌≡◌, refl, sym, ap, ◌∙◌}
use mathlib.Core.List.{List, [], ◌∷◌, ◌++◌, map}
use lib.ListN.{length, get_or, take, drop, length-drop, drop_of_length-le}
use lib.Seq.{drop-cons, take_all}
use Rattle.text.specs.Text.{ascii, hex_byte}
use Rattle.wording.specs.Words.{behind, line_of}
use Rattle.wording.proofs.Texts.{behind-length}
use Rattle.hex_lines.specs.HexLines.{hex_line}

-- bytes in hex, from i on
abbrev pub left : List ℕ → ℕ → List ℕ
left bytes i = behind (map hex_byte (drop i bytes))

module _ (bytes : List ℕ) (i : ℕ) where
  pub left-next : i < length bytes → left bytes i ≡ (ascii " " ++ hex_byte (get_or bytes i 0)) ++ left bytes (i + 1)
  unfolding behind
  left-next h = ap (λ (xs : List ℕ). behind (map hex_byte xs)) (drop-cons bytes i 0 h ∙ ap (λ (k : ℕ). get_or bytes i 0 ∷ drop k bytes) (sym (add-one i)))

  pub left_end : length bytes ≤ i → left bytes i ≡ ascii "\n"
  unfolding behind
  left_end h = ap (λ (xs : List ℕ). behind (map hex_byte xs)) (drop_of_length-le bytes {i = i} h)

  pub left-length : length (left bytes i) ≡ 3 * (length bytes - i) + 1
  left-length = behind-length (drop i bytes) ∙ ap (λ (k : ℕ). 3 * k + 1) (length-drop i bytes)

module _ (bytes : List ℕ) where
  all_behind : take (length bytes - 1) (drop 1 bytes) ≡ drop 1 bytes
  all_behind = take_all (length bytes - 1) (drop 1 bytes) (omega (arith, length-drop 1 bytes))

  pub behind_first : behind (map hex_byte (take (length bytes - 1) (drop 1 bytes))) ≡ left bytes 1
  behind_first = ap (λ (xs : List ℕ). behind (map hex_byte xs)) all_behind

  pub behind_few : {n : ℕ} → length bytes ≤ n → length (take (length bytes - 1) (drop 1 bytes)) ≤ n
  behind_few h = omega (arith, ap length all_behind, length-drop 1 bytes)

pub hex_none : (bytes : List ℕ) → length bytes ≡ 0 → ascii "\n" ≡ hex_line bytes
unfolding hex_line line_of
hex_none [] h = refl
hex_none (b ∷ bytes) h = absurd (omega arith)

pub hex_some : (bytes : List ℕ) → 0 < length bytes → hex_byte (get_or bytes 0 0) ++ left bytes 1 ≡ hex_line bytes
unfolding hex_line line_of
hex_some [] h = absurd (omega arith)
hex_some (b ∷ bytes) h = refl

-- a part is as long as was taken, or shorter
pub taken_few : (n : ℕ) (xs : List ℕ) → length (take n xs) ≤ n
taken_few zero xs = omega arith
taken_few (suc n) [] = omega arith
taken_few (suc n) (x ∷ xs) = omega (arith, taken_few n xs)

pub taken_within : (n : ℕ) (xs : List ℕ) (m : ℕ) → n ≤ m → length (take n xs) ≤ m
taken_within n xs m h = omega (arith, taken_few n xs)
